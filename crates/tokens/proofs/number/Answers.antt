use mathlib.Core.Path.{◌≡◌, refl, sym, ap, ◌∙◌}
use Prim.Native.Nat.{◌+◌}
use native.Mathlib.Omega.{arith}
use lib.ListN.{length, drop}
use Rattle.notation.specs.Laws.Decimal.{digit_range}
use Rattle.tokens.specs.Tokens.{number_on}
use Rattle.tokens.specs.Laws.Steps.{digits_stop, digits_more, digits-end, number_stops, number_more, number_ends}
use Rattle.tokens.specs.Laws.Steps.{drop-none}
use Rattle.tokens.proofs.number.Goals as goal

pub returns-then-not-is_digit : goal.returns-then-not-is_digit
returns-then-not-is_digit c =
    let a = c.args in
    let e = sym c.is_digit.ensures ∙ c.if-not-is_digit.true in (
      record {
        value = sym (number_stops a.text.now c.loop-i.i (omega arith) c.loop-i.x e) ∙ c.loop-i.invariant.1;
        behind = drop-none a.text.now c.loop-i.i _ (digits_stop a.text.now c.loop-i.i (omega arith) e) ∙ c.loop-i.invariant.2;
        within = omega arith;
      },
      omega arith,
    )

pub more-x-requires : goal.more-x-requires
more-x-requires c =
    let h = digit_range _ (sym c.is_digit.ensures ∙ c.if-not-is_digit.false) in
    (omega arith, (h.0, h.1))

pub loop-i-preserved : goal.loop-i-preserved
loop-i-preserved c =
    let a = c.args in
    let e = sym c.is_digit.ensures ∙ c.if-not-is_digit.false in (
      c.more-x.ensures.1,
      ap (λ x. number_on x (drop (c.loop-i.i + 1) a.text.now)) c.more-x.ensures.0
          ∙ sym (number_more a.text.now c.loop-i.i (omega arith) c.loop-i.x e) ∙ c.loop-i.invariant.1,
      sym (digits_more a.text.now c.loop-i.i (omega arith) e) ∙ c.loop-i.invariant.2,
    )

pub returns : goal.returns
returns c =
    let a = c.args in
    let h = c.loop-i-test.false in
    let e : c.loop-i.i ≡ length a.text.now = omega arith in (
      record {
        value = sym (number_ends a.text.now c.loop-i.i h c.loop-i.x) ∙ c.loop-i.invariant.1;
        behind = rw (← e) (drop-none a.text.now c.loop-i.i _ (digits-end a.text.now c.loop-i.i h) ∙ c.loop-i.invariant.2);
        within = omega arith;
      },
      omega arith,
    )

pub loop-i-init : goal.loop-i-init
loop-i-init c = (omega arith, refl, refl)

pub bounds-text-i : goal.bounds-text-i
bounds-text-i c = omega arith
