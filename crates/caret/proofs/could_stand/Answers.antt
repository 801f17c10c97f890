-- `could_stand` is safe: the byte is within the buffer.
use mathlib.Core.Path.{sym}
use native.Mathlib.Omega.{arith}
use lib.Seq.{length-take-le}
use lib.ListN.{length-set}
use Rattle.caret.proofs.could_stand.Goals as goal

pub slice_bounds-recognise-end : goal.slice_bounds-recognise-end
slice_bounds-recognise-end c = simp length-set (omega arith)

pub slice_bounds-recognise-end-2 : goal.slice_bounds-recognise-end-2
slice_bounds-recognise-end-2 c = sym (length-take-le _ _ (simp length-set (omega arith)))
