use mathlib.Core.Path.{refl, sym, ◌∙◌}
use Prim.Native.Nat.{◌+◌}
use native.Mathlib.Omega.{arith}
use lib.ListN.{drop}
use Rattle.tokens.specs.Tokens.{blanks}
use Rattle.tokens.specs.Laws.Steps.{peek_some}
use Rattle.fields.specs.Laws.Guards.{means_none, through_first, through_more, through_end}
use Rattle.fields.proofs.literals.Goals as goal

pub loop-i-init : goal.loop-i-init
loop-i-init c = (
  (c.literal-g.ensures.within, c.literal-g.ensures.onward),
  λ ls ts h. through_first _ ls ts _ _ _ h c.literal-g.ensures (means_none _ refl refl refl),
)

pub loop-i-smaller : goal.loop-i-smaller
loop-i-smaller c =
    let a = c.args in
    let s = peek_some a.text.now c.loop-i.i (c.loop-i.i + blanks (drop c.loop-i.i a.text.now)) refl 38 (omega arith)
    (sym c.peek.ensures ∙ c.loop-i-test.true) in
    let f = c.behind_sign.ensures.further (omega arith) s in
    omega (arith, c.literal-g-in-loop-i.ensures.onward, c.literal-g-in-loop-i.ensures.within)

pub loop-i-preserved : goal.loop-i-preserved
loop-i-preserved c = (
  (
    c.literal-g-in-loop-i.ensures.within,
    omega (arith, c.loop-i.invariant.0.1, c.behind_sign.ensures.onward, c.literal-g-in-loop-i.ensures.onward),
  ),
  λ ls ts h. through_more _ ls ts _ _ _ _ (sym c.peek.ensures ∙ c.loop-i-test.true) c.behind_sign.ensures
      c.literal-g-in-loop-i.ensures (c.loop-i.invariant.1 ls ts h),
)

pub returns : goal.returns
returns c =
    record {
      within = c.behind_sign-next.ensures.within;
      onward = omega (arith, c.loop-i.invariant.0.1, c.behind_sign-next.ensures.onward);
      gives =
          λ ls ts h. through_end _ ls ts _ _ _
          (λ e. c.loop-i-test.false (c.peek.ensures ∙ e)) c.behind_sign-next.ensures refl refl
          refl (c.loop-i.invariant.1 ls ts h);
    }

pub peek-requires : goal.peek-requires
peek-requires c = c.loop-i.invariant.0.0

pub behind_sign-requires : goal.behind_sign-requires
behind_sign-requires c = c.loop-i.invariant.0.0

pub literal-g-requires-in-loop-i : goal.literal-g-requires-in-loop-i
literal-g-requires-in-loop-i c = c.behind_sign.ensures.within

pub behind_sign-next-requires : goal.behind_sign-next-requires
behind_sign-next-requires c = c.loop-i.invariant.0.0
