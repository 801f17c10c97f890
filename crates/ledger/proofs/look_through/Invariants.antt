-- The cases left, seen after those that were, say what all say.
use Rattle.std.proofs.Common.{◌≡◌, drop}
use Rattle.desk.specs.Turns.{unseen_of, all_seen}
use Rattle.ledger.proofs.look_through.Given as goal

abbrev pub invariant-loop-case : goal.invariant-loop-case
invariant-loop-case l =
    all_seen l.s (drop l.case-index l.cases) ≡ all_seen (unseen_of l.file) l.cases
