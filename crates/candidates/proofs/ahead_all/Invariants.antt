-- `ahead_all` meets its contract. The loop makes the rows from the last chart down. Assumes nothing.
use mathlib.Core.Path.{◌≡◌}
use mathlib.Core.List.{List}
use Prim.Native.Nat.{ℕ}
use lib.ListN.{length}
use Rattle.tables.specs.Insertion.{AheadFrom}
use Rattle.candidates.proofs.ahead_all.Given as goal

abbrev pub invariant-loop-k : goal.invariant-loop-k
invariant-loop-k l =
    (length l.masks ≡ length l.initial.masks)
    × ((m : List ℕ) → AheadFrom l.charts l.small l.charts m l.initial.masks → AheadFrom l.charts l.small l.k m l.masks)
