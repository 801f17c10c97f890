-- `body::slave_at` meets its contract. The record is read at its place.
use Rattle.layout.specs.Body.{slave_at}
use Rattle.layout.proofs.body.slave_at.Goals as goal

pub returns : goal.returns
unfolding slave_at
returns c = c.read_slave.ensures
