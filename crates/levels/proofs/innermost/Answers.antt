-- `levels::innermost` meets its contract.
use mathlib.Core.Path.{ap}
use lib.ListN.{get_or}
use Rattle.levels.proofs.innermost.Goals as goal

pub returns : goal.returns
returns c = ap (λ i. get_or c.args.ring.now i 0) c.slot.ensures.0
