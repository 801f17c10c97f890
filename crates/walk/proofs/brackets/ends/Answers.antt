-- `ends` meets its contract.
use mathlib.Core.Path.{ap}
use mathlib.Core.Bool.{◌&&◌}
use lib.Dec.{eqb}
use Rattle.walk.specs.Brackets.{ends?}
use Rattle.walk.proofs.brackets.ends.Goals as goal

pub returns : goal.returns
unfolding ends?
returns c = ap (eqb c.args.level 0 &&◌) c.closes.ensures
