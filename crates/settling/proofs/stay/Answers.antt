-- `settling::stay` meets its contract: what `idle` leaves is what it promises.
use Rattle.settling.proofs.stay.Goals as goal

pub returns : goal.returns
returns c = c.idle.ensures
