-- `settling::trips` meets its contract: none of the triggers below v holds.
use mathlib.Core.Path.{◌≡◌}
use mathlib.Core.Bool.{Bool, false}
use mathlib.Core.List.{List}
use Prim.Native.Nat.{ℕ}
use Rattle.signals.specs.Guard.{guard, is_met}
use Rattle.meaning.specs.Sums.{any_up_to}
use Rattle.cells.specs.Triggers.{trigger_needed, trigger_barred}
use Rattle.settling.proofs.trips.Given as goal

-- trigger v holds
abbrev pub one : List ℕ → ℕ → ℕ → ℕ → ℕ → Bool
one g d low high v = is_met (guard (trigger_needed g d v) (trigger_barred g d v) low high)

abbrev pub invariant-loop-v : goal.invariant-loop-v
invariant-loop-v l = any_up_to l.v (one l.guards l.d l.low l.high) ≡ false
