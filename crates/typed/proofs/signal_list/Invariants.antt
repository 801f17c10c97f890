-- `typed::signal_list` meets its contract. The loop's invariant: the parts from `at` on, joined with what is read, are
-- the whole.
use mathlib.Core.Path.{◌≡◌}
use Prim.Native.Nat.{◌-◌, ◌≤◌}
use lib.ListN.{length, drop}
use Rattle.typed.specs.Typed.{signals_on, split, comma}
use Rattle.typed.proofs.signal_list.Given as goal

abbrev pub invariant-loop-n : goal.invariant-loop-n
invariant-loop-n l = (l.at ≤ length l.word) × (signals_on 0 (split comma l.word) ≡ signals_on l.set (split comma (drop l.at l.word)))

abbrev pub decreases-loop-n : goal.decreases-loop-n
decreases-loop-n l = length l.word - l.at
