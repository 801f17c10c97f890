use Rattle.std.proofs.Common.{arith}
use Rattle.post.proofs.day.entries.Goals as goal

pub loop-at-init : goal.loop-at-init
loop-at-init c = omega arith

pub slice_bounds-read_line-count : goal.slice_bounds-read_line-count
slice_bounds-read_line-count c = c.end-e.ensures.order

pub slice_bounds-read_line-start : goal.slice_bounds-read_line-start
slice_bounds-read_line-start c = c.end-e.ensures.order

pub slice_bounds-read_line-end : goal.slice_bounds-read_line-end
slice_bounds-read_line-end c = omega (arith, c.end-e.ensures.within)

pub overflow_add-at : goal.overflow_add-at
overflow_add-at c = omega arith

pub loop-at-smaller : goal.loop-at-smaller
loop-at-smaller c = omega arith

pub loop-at-preserved : goal.loop-at-preserved
loop-at-preserved c = omega arith
