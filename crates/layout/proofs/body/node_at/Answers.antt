-- `body::node_at` meets its contract. The record is read at its place.
use Rattle.layout.specs.Body.{node_at}
use Rattle.layout.proofs.body.node_at.Goals as goal

pub returns : goal.returns
unfolding node_at
returns c = c.read_node.ensures
