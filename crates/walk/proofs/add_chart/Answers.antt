-- `add_chart` meets its contract.
use Rattle.walk.specs.Laws.Walk.{chart-written}
use Rattle.walk.proofs.add_chart.Goals as goal

pub returns : goal.returns
returns c l = chart-written _ _ _ _ _ _ (c.add_node.ensures l) c.small.ensures
