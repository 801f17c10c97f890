-- `outline_of` meets its contract.
use Rattle.outline.specs.Laws.Forms.{text_right}
use Rattle.outline.proofs.outline_of.Goals as goal

pub returns : goal.returns
returns c = text_right _ _ c.chart.ensures
