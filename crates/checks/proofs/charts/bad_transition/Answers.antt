-- `charts::bad_transition` meets its contract: the three tests, in the definition's order. Assumes nothing.
use mathlib.Core.Path.{refl, sym}
use mathlib.Core.Bool.{false≢true}
use borrow.Author.Tests.{lt-ltb, le-ltb}
use Rattle.checks.specs.Walk.{next?, counted}
use Rattle.checks.proofs.charts.bad_transition.Goals as goal

pub returns-then-t-states : goal.returns-then-t-states
unfolding next?
returns-then-t-states c = (simp (le-ltb _ _ c.if-t-states.true), λ e. absurd (false≢true (sym e)))

pub returns-then-t-states-2 : goal.returns-then-t-states-2
unfolding next?
returns-then-t-states-2 c =
    (simp (lt-ltb _ _ c.if-t-states.false, le-ltb _ _ c.if-t-states-2.true), λ e. absurd (false≢true (sym e)))

pub returns-then-left-from-ge-MOST_FROM_STATE : goal.returns-then-left-from-ge-MOST_FROM_STATE
unfolding next?
returns-then-left-from-ge-MOST_FROM_STATE c = (
  simp (
    lt-ltb _ _ c.if-t-states.false,
    lt-ltb _ _ c.if-t-states-2.false,
    le-ltb _ _ c.if-left-from-ge-MOST_FROM_STATE.true,
  ),
  λ e. absurd (false≢true (sym e)),
)

pub returns : goal.returns
unfolding next? counted
returns c = (
  simp (
    lt-ltb _ _ c.if-t-states.false,
    lt-ltb _ _ c.if-t-states-2.false,
    lt-ltb _ _ c.if-left-from-ge-MOST_FROM_STATE.false,
  ),
  λ e. refl,
)
