-- `body::head_at` meets its contract. The record is read at its place.
use Rattle.layout.specs.Body.{head_at}
use Rattle.layout.proofs.body.head_at.Goals as goal

pub returns : goal.returns
unfolding head_at
returns c = c.read_head.ensures
