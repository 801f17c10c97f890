-- What came stands at the front of the buffer, and each turn brings at least one byte.
use Rattle.std.proofs.Common.{◌≡◌, length, take, ◌-◌, ◌≤◌}
use Rattle.std.specs.Io.KnownBytes.{Consumes}
use Rattle.console.proofs.read_full.Given as goal

abbrev pub invariant-loop-at : goal.invariant-loop-at
invariant-loop-at g l =
    (length l.buffer ≡ length l.initial.buffer) × (l.at ≤ length l.buffer)
    × Consumes (g.R.Read.remaining l.initial.stream) (g.R.Read.remaining l.stream) (take l.at l.buffer)

abbrev pub decreases-loop-at : goal.decreases-loop-at
decreases-loop-at g l = length l.initial.buffer - l.at
