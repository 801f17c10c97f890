-- `levels::refill` meets its contract: the walk back finds one level after another.
use mathlib.Core.List.{List}
use Prim.Native.Nat.{ℕ, ◌+◌, ◌≤◌, ◌<◌}
use Rattle.levels.specs.Ring.{Stands}
use Rattle.levels.specs.Laws.Fill.{Looks}
use Rattle.levels.proofs.refill.Given as goal

abbrev pub invariant-loop-i : goal.invariant-loop-i
invariant-loop-i l =
    (l.i + l.depth ≤ l.from) × ((l.held < 1024)
    × ((ls : List ℕ) → Stands l.text l.initial.ring l.initial.places l.end l.taken l.from ls
    → Looks l.text l.ring l.places l.end l.held l.i l.depth l.second l.q ls))
