-- `raise_all` meets its contract: the masks below d are raised, the others are as they came. Assumes nothing.
use mathlib.Core.Path.{◌≡◌}
use Prim.Native.Nat.{ℕ, ◌≤◌, ◌<◌}
use lib.ListN.{length, get_or}
use Rattle.signals.specs.Mask.{◌∪◌, ◌∩◌}
use Rattle.cells.specs.Table.{back_at}
use Rattle.candidates.proofs.raise_all.Given as goal

abbrev pub invariant-loop-d : goal.invariant-loop-d
invariant-loop-d l =
    (length l.low ≡ length l.initial.low) × ((k : ℕ) → l.d ≤ k → get_or l.low k 0 ≡ get_or l.initial.low k 0)
    × ((k : ℕ) → k < l.d → get_or l.low k 0 ≡ get_or l.initial.low k 0 ∪ l.u ∩ back_at l.masks k l.c)
