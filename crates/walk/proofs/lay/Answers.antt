-- `lay` meets its contract.
use Rattle.walk.specs.Laws.Text.{text_laid}
use Rattle.walk.proofs.lay.Goals as goal

pub returns : goal.returns
returns c = text_laid _ _ _ _ _ _ _ c.chart.ensures
