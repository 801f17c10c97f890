use mathlib.Core.Path.{refl, sym, ap, ◌∙◌}
use mathlib.Core.Bool.{◌||◌}
use Prim.Native.Nat.{◌+◌}
use native.Mathlib.Omega.{arith}
use lib.ListN.{drop}
use Rattle.tokens.specs.Tokens.{blanks}
use Rattle.tokens.specs.Laws.Steps.{peek_some}
use Rattle.lists.specs.Laws.Transitions.{along_first, along_more, along_end}
use Rattle.lists.proofs.transitions_from.Goals as goal
use Rattle.lists.proofs.transitions_from.Goals.{After-refused-more}

pub loop-i-init : goal.loop-i-init
loop-i-init c =
    let p = c.transition_at-p.ensures in (
      (p.within, (p.onward, omega arith)),
      λ ts us h. along_first _ _ ts us _ _ _ h p c.refused-bad.ensures,
    )

-- a comma takes the place further on
pub loop-i-smaller : goal.loop-i-smaller
loop-i-smaller c =
    let a = c.args in
    let s = peek_some a.text.now c.loop-i.i (c.loop-i.i + blanks (drop c.loop-i.i a.text.now)) refl 44 (omega arith)
    (sym c.peek.ensures ∙ c.loop-i-test.true) in
    let f = c.behind_sign.ensures.further (omega arith) s in
    omega (arith, c.transition_at-q.ensures.onward, c.transition_at-q.ensures.within)

pub overflow_add-commas : goal.overflow_add-commas
overflow_add-commas c =
    omega (arith, loop-i-smaller (goal.at.overflow_add-commas c).After-refused-more, c.loop-i.invariant.0.1.1)

pub loop-i-preserved : goal.loop-i-preserved
loop-i-preserved c =
    let f = loop-i-smaller (goal.at.loop-i-preserved c).After-refused-more in
    let v = c.loop-i.invariant.0 in (
      (c.transition_at-q.ensures.within, (omega (arith, f, v.1.0), omega (arith, f, v.1.1))),
      λ ts us h. along_more _ _ ts us _ _ _ _ _ _ (sym c.peek.ensures ∙ c.loop-i-test.true) c.behind_sign.ensures
          c.transition_at-q.ensures (ap (c.loop-i.bad ||◌) c.refused-more.ensures)
          (c.loop-i.invariant.1 ts us h),
    )

pub overflow_add-result : goal.overflow_add-result
overflow_add-result c = omega (arith, c.loop-i.invariant.0.0, c.loop-i.invariant.0.1.1)

pub returns : goal.returns
returns c =
    record {
      within = c.behind_sign-2.ensures.within;
      onward = omega (arith, c.loop-i.invariant.0.1.0, c.behind_sign-2.ensures.onward);
      gives =
          λ ts us h. along_end _ _ ts us _ _ _ _ (λ e. c.loop-i-test.false (c.peek.ensures ∙ e)) c.behind_sign-2.ensures
          refl refl (c.loop-i.invariant.1 ts us h);
    }

pub peek-requires : goal.peek-requires
peek-requires c = c.loop-i.invariant.0.0

pub behind_sign-requires : goal.behind_sign-requires
behind_sign-requires c = c.loop-i.invariant.0.0

pub transition_at-q-requires : goal.transition_at-q-requires
transition_at-q-requires c = c.behind_sign.ensures.within

pub behind_sign-requires-2 : goal.behind_sign-requires-2
behind_sign-requires-2 c = c.loop-i.invariant.0.0
