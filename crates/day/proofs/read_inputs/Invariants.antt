-- `read_inputs` meets its contract: the inputs read, then those left in the front, are all inputs.
use mathlib.Core.Path.{◌≡◌}
use mathlib.Core.List.{◌++◌}
use Prim.Native.Nat.{◌*◌, ◌-◌}
use lib.ListN.{length, take, drop}
use Rattle.line.specs.Line.{inputs_of}
use Rattle.day.proofs.read_inputs.Given as goal

abbrev pub invariant-loop-i : goal.invariant-loop-i
invariant-loop-i l = (length l.inputs ≡ l.n) × (take l.i l.inputs ++ inputs_of (l.n - l.i) (drop (8 * l.i) l.input) ≡ inputs_of l.n l.input)
