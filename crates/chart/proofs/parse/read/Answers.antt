-- The file lies within the buffer.
use Rattle.std.proofs.Common.{sym, length-take-le}
use Rattle.std.specs.Prelude.{Ok}
use Rattle.texts.specs.Laws.Tests.{read_within}
use Rattle.chart.proofs.parse.read.Goals as goal

pub slice_bounds-out-end : goal.slice_bounds-out-end
slice_bounds-out-end g c = read_within _ _ (Ok _) _ c.in-Ok.ensures

pub slice_bounds-save-end : goal.slice_bounds-save-end
slice_bounds-save-end g c = sym (length-take-le _ _ (read_within _ _ (Ok _) _ c.in-Ok.ensures))
