-- `sequential` meets its contract.
use Rattle.walk.specs.Laws.Walk.{sequential_laid}
use Rattle.walk.proofs.sequential.Goals as goal

pub returns : goal.returns
returns c l = sequential_laid _ _ _ _ _ _ c.sequential_at-s.ensures (c.add_chart.ensures l)
