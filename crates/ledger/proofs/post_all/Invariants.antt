-- The invariant is `Underway`: where the posting stands after i of the n cases.
use Rattle.ledger.specs.Underway.{Underway}
use Rattle.ledger.proofs.post_all.Given as goal

abbrev pub invariant-loop-i : goal.invariant-loop-i
invariant-loop-i l = Underway l.file l.d l.charts l.n l.initial.cases l.initial.rows l.i l.cases l.rows
