-- `signals::lowest_free` meets its contract. The loop's invariant: each signal passed is in the set.
use Prim.Native.Nat.{ℕ, ◌<◌}
use mathlib.Core.Path.{◌≡◌}
use mathlib.Core.Bool.{true}
use Rattle.signals.specs.Mask.{bit}
use Rattle.signals.proofs.lowest_free.Given as goal

abbrev pub invariant-loop-n : goal.invariant-loop-n
invariant-loop-n l = (k : ℕ) → k < l.n → bit l.s k ≡ true
