-- `settling::rest` meets its contract: what `idle` leaves is what it promises.
use Rattle.settling.proofs.rest.Goals as goal

pub returns : goal.returns
returns c = c.idle.ensures
