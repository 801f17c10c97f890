-- `text` meets its contract: all nodes are read, so the whole is written.
use native.Mathlib.Omega.{arith}
use Rattle.script.proofs.Laws.{text_put}
use Rattle.script.proofs.text.Goals as goal

pub overflow_sub-n : goal.overflow_sub-n
overflow_sub-n c = omega (arith, c.requires.0.ranged.sized.some_node)

pub chart-requires : goal.chart-requires
chart-requires c = (c.requires.0, omega (arith, c.requires.0.ranged.sized.some_node))

pub returns : goal.returns
returns c = text_put _ _ c.requires.0.ranged.sized.some_node c.requires.1 c.chart.ensures
