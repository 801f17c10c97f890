-- `left_out` meets its contract: a state of the mask halved is the one before a state of the mask.
use mathlib.Core.Path.{ap}
use mathlib.Core.Bool.{not}
use Rattle.lists.proofs.left_out.Goals as goal

pub returns : goal.returns
returns c = ap not c.within.ensures
