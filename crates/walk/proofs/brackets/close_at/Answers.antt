use mathlib.Core.Path.{◌≡◌, refl, sym, ap, ◌∙◌}
use Prim.Native.Nat.{◌+◌}
use native.Mathlib.Omega.{arith}
use lib.ListN.{length, drop, get_or}
use Rattle.walk.specs.Brackets.{closing}
use Rattle.walk.specs.Laws.Brackets.{closing_here, closing-on, closing_end, opened-le}
use Rattle.walk.proofs.brackets.close_at.Goals as goal

pub returns-then-ends : goal.returns-then-ends
returns-then-ends c =
    record {
      within = omega arith;
      onward = omega arith;
      is = closing_here _ _ _ c.loop-i-test.true (sym c.ends.ensures ∙ c.if-ends.true) ∙ c.loop-i.invariant.1;
    }

pub loop-i-preserved : goal.loop-i-preserved
loop-i-preserved c =
    let a = c.args in
    let b = get_or a.text.now c.loop-i.i 0 in (
      omega (arith, c.opened-level.ensures, opened-le c.loop-i.level b, c.loop-i.invariant.0),
      ap (λ k. closing k (drop (c.loop-i.i + 1) a.text.now)) c.opened-level.ensures
          ∙ sym (closing-on a.text.now c.loop-i.i c.loop-i.level c.loop-i-test.true
          (sym c.ends.ensures ∙ c.if-ends.false)) ∙ c.loop-i.invariant.1,
    )

pub loop-i-init : goal.loop-i-init
loop-i-init c = (omega arith, refl)

pub bounds-text-i : goal.bounds-text-i
bounds-text-i c = omega arith

pub opened-level-requires : goal.opened-level-requires
opened-level-requires c = omega arith

pub returns : goal.returns
returns c =
    let e : c.loop-i.i ≡ length c.args.text.now = omega arith in
    record {
      within = omega arith;
      onward = omega arith;
      is = rw (← e) (closing_end _ _ _ c.loop-i-test.false ∙ c.loop-i.invariant.1);
    }
