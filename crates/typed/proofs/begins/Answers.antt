-- `typed::begins` meets its contract: of a shorter word there is no more to take than all of it.
use mathlib.Core.Path.{sym}
use native.Mathlib.Omega.{arith}
use lib.ListN.{length}
use lib.Seq.{take_all, length-take-le}
use Rattle.typed.proofs.begins.Goals as goal

pub returns-then-word-n : goal.returns-then-word-n
returns-then-word-n c =
    let a = c.args in
    rw (take_all (length a.other.now) a.word.now (omega arith)) c.is.ensures

pub slice_bounds-is-end : goal.slice_bounds-is-end
slice_bounds-is-end c =
    let a = c.args in
    sym (length-take-le (length a.other.now) a.word.now (omega arith))
