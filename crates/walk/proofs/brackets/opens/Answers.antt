-- `opens` meets its contract.
use mathlib.Core.Path.{refl}
use Rattle.walk.specs.Brackets.{opens?}
use Rattle.walk.proofs.brackets.opens.Goals as goal

pub returns : goal.returns
unfolding opens?
returns c = refl
