-- `body::transition_at` meets its contract. The record is read at its place.
use Rattle.layout.specs.Body.{transition_at}
use Rattle.layout.proofs.body.transition_at.Goals as goal

pub returns : goal.returns
unfolding transition_at
returns c = c.read_transition.ensures
