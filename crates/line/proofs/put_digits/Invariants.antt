-- `line::put_digits` meets its contract. The loop's invariant: with the n - i lowest digits of what is left written
-- over the buffer, all is written.
use mathlib.Core.Path.{◌≡◌}
use Prim.Native.Nat.{◌-◌}
use lib.ListN.{length}
use lib.Seq.{sets}
use Rattle.line.specs.Line.{digits}
use Rattle.line.proofs.put_digits.Given as goal

abbrev pub invariant-loop-i : goal.invariant-loop-i
invariant-loop-i l = (length l.out ≡ length l.initial.out) × (sets l.out l.at (digits l.base (l.n - l.i) l.left) ≡ sets l.initial.out l.at (digits l.base l.n l.x))
