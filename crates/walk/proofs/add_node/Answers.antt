-- `add_node` meets its contract.
use Rattle.walk.specs.Laws.Walk.{node_written}
use Rattle.walk.proofs.add_node.Goals as goal

pub returns : goal.returns
returns c l = node_written _ _ _ _ _ l _ _ _ _ c.one_more.ensures c.put_node.ensures
