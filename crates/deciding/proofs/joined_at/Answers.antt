-- `deciding::joined_at` meets its contract.
use borrow.Author.Tests.{lt-ltb, le-ltb}
use Rattle.desk.specs.Turns.{joined_at}
use Rattle.deciding.proofs.joined_at.Goals as goal

pub returns-then-at-ge-CASES : goal.returns-then-at-ge-CASES
unfolding joined_at
returns-then-at-ge-CASES c = simp (le-ltb _ _ c.if-at-ge-CASES.true)

pub returns : goal.returns
unfolding joined_at
returns c = simp (lt-ltb _ _ c.if-at-ge-CASES.false)
