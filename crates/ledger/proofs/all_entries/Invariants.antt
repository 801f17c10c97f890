-- The entries left, taken after those that were, come to what all come to.
use Rattle.std.proofs.Common.{◌≡◌, drop}
use Rattle.desk.specs.Turns.{no_day, all_taken}
use Rattle.ledger.proofs.all_entries.Given as goal

abbrev pub invariant-loop-entry : goal.invariant-loop-entry
invariant-loop-entry l =
    all_taken l.n l.d (drop l.entry-index l.entries) ≡ all_taken l.n no_day l.entries
