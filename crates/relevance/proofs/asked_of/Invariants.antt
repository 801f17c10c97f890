-- `asked_of` meets its contract. The loop has what the first p transitions ask; the next begins at `at`. Assumes nothing.
use mathlib.Core.Path.{◌≡◌}
use Prim.Native.Nat.{◌+◌, ◌*◌}
use Rattle.candidates.specs.Candidates.{record_from}
use Rattle.relevance.specs.Relevance.Laws.{AsksLeft}
use Rattle.relevance.proofs.asked_of.Given as goal

abbrev pub invariant-loop-p : goal.invariant-loop-p
invariant-loop-p l = (l.at ≡ l.initial.at + 28 * l.p) × AsksLeft (record_from l.body l.initial.at) 0 l.count l.state l.p l.u
