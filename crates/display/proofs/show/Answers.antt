-- The text lies within the buffer.
use Rattle.std.proofs.Common.{sym, length-take-le}
use Rattle.writer.specs.Laws.Tests.{write-within}
use Rattle.display.proofs.show.Goals as goal

pub slice_bounds-text-end : goal.slice_bounds-text-end
slice_bounds-text-end g c = write-within _ _ _ _ c.in_ok-n.ensures

pub slice_bounds-lay_out-end : goal.slice_bounds-lay_out-end
slice_bounds-lay_out-end g c = sym (length-take-le _ _ (write-within _ _ _ _ c.in_ok-n.ensures))

pub slice_bounds-text-end-else-laid_out : goal.slice_bounds-text-end-else-laid_out
slice_bounds-text-end-else-laid_out g c = write-within _ _ _ _ c.in_ok-n.ensures

pub slice_bounds-say-end : goal.slice_bounds-say-end
slice_bounds-say-end g c = sym (length-take-le _ _ (write-within _ _ _ _ c.in_ok-n.ensures))
