use mathlib.Core.Path.{refl, sym, ap, ◌∙◌}
use mathlib.Core.Bool.{◌||◌}
use Prim.Native.Nat.{◌+◌}
use native.Mathlib.Omega.{arith}
use lib.ListN.{drop}
use Rattle.tokens.specs.Tokens.{blanks}
use Rattle.tokens.specs.Laws.Steps.{peek_some}
use Rattle.lists.specs.Laws.States.{going_first, going_more, going_end}
use Rattle.lists.proofs.states_from.Goals as goal
use Rattle.lists.proofs.states_from.Goals.{After-with_name-so_far-in-loop-i}

pub loop-i-init : goal.loop-i-init
loop-i-init c =
    let n = c.name_at-n.ensures in
    ((n.is.within, (n.onward, omega arith)), λ ks ts h. going_first _ ks ts _ _ _ h n c.with_name-so_far.ensures)

-- a comma takes the place further on
pub loop-i-smaller : goal.loop-i-smaller
loop-i-smaller c =
    let a = c.args in
    let s = peek_some a.text.now c.loop-i.i (c.loop-i.i + blanks (drop c.loop-i.i a.text.now)) refl 44 (omega arith)
    (sym c.peek.ensures ∙ c.loop-i-test.true) in
    let f = c.behind_sign.ensures.further (omega arith) s in
    omega (arith, c.name_at-m.ensures.onward, c.name_at-m.ensures.is.within)

pub overflow_add-commas : goal.overflow_add-commas
overflow_add-commas c =
    omega (arith, loop-i-smaller (goal.at.overflow_add-commas c).After-with_name-so_far-in-loop-i, c.loop-i.invariant.0.1.1)

pub loop-i-preserved : goal.loop-i-preserved
loop-i-preserved c =
    let n = c.name_at-m.ensures in
    let f = loop-i-smaller (goal.at.loop-i-preserved c).After-with_name-so_far-in-loop-i in (
      (n.is.within, (omega (arith, f, c.loop-i.invariant.0.1.0), omega (arith, f, c.loop-i.invariant.0.1.1))),
      λ ks ts h. going_more _ ks ts _ _ _ _ _ _ _ _ (sym c.peek.ensures ∙ c.loop-i-test.true) c.behind_sign.ensures n
          c.with_name-so_far-in-loop-i.ensures (c.loop-i.invariant.1 ks ts h),
    )

pub overflow_add-result : goal.overflow_add-result
overflow_add-result c = omega (arith, c.loop-i.invariant.0.0, c.loop-i.invariant.0.1.1)

pub returns : goal.returns
returns c =
    record {
      within = c.behind_sign-2.ensures.within;
      onward = omega (arith, c.loop-i.invariant.0.1.0, c.behind_sign-2.ensures.onward);
      gives =
          λ ks ts h. going_end _ ks ts _ _ _ _ _ _ (λ e. c.loop-i-test.false (c.peek.ensures ∙ e)) c.behind_sign-2.ensures
          refl refl refl (ap (c.loop-i.so_far.bad ||◌) c.left_out.ensures) (c.loop-i.invariant.1 ks ts h);
    }

pub peek-requires : goal.peek-requires
peek-requires c = c.loop-i.invariant.0.0

pub behind_sign-requires : goal.behind_sign-requires
behind_sign-requires c = c.loop-i.invariant.0.0

pub name_at-m-requires : goal.name_at-m-requires
name_at-m-requires c = c.behind_sign.ensures.within

pub behind_sign-requires-2 : goal.behind_sign-requires-2
behind_sign-requires-2 c = c.loop-i.invariant.0.0
