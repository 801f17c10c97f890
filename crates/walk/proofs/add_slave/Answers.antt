-- `add_slave` meets its contract.
use Rattle.walk.specs.Laws.Walk.{slave-written}
use Rattle.walk.proofs.add_slave.Goals as goal

pub returns : goal.returns
returns c o = slave-written _ _ _ _ o _ _ _ _ c.put_slave.ensures
