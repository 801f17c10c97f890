-- `puts_of` meets its contract. The loop has what the first p transitions put out. Assumes nothing.
use mathlib.Core.Path.{◌≡◌}
use Prim.Native.Nat.{◌+◌, ◌*◌}
use Rattle.candidates.specs.Candidates.{read_from}
use Rattle.candidates.specs.Candidates.Laws.{PutsLeft}
use Rattle.candidates.proofs.puts_of.Given as goal

-- the next record begins at `at`
abbrev pub invariant-loop-p : goal.invariant-loop-p
invariant-loop-p l = (l.at ≡ l.initial.at + 28 * l.p) × PutsLeft (read_from l.body l.read l.initial.at) 0 l.count l.state l.p l.puts
