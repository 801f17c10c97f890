-- `day::read_line` is safe and ends.
use Rattle.std.proofs.Common.{sym, length-take-le}
use Rattle.post.proofs.day.read_line.Goals as goal

pub slice_bounds-words-end-2 : goal.slice_bounds-words-end-2
slice_bounds-words-end-2 c = sym (length-take-le _ _ c.end-space.ensures.within)
