-- `note_chart` meets its contract. The loop: p transitions were looked at, and the next begins at `at`.
use mathlib.Core.Path.{◌≡◌}
use Prim.Native.Nat.{◌+◌, ◌*◌}
use Rattle.candidates.specs.Candidates.{record_from}
use Rattle.staying.specs.Staying.{Noting}
use Rattle.staying.proofs.note_chart.Given as goal

abbrev pub invariant-loop-p : goal.invariant-loop-p
invariant-loop-p l = (l.at ≡ l.initial.at + 28 * l.p) × Noting (record_from l.body l.initial.at) 0 l.count l.state l.c l.p l.initial.guards l.guards l.have
