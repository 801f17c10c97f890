-- `closes` meets its contract.
use mathlib.Core.Path.{refl}
use Rattle.walk.specs.Brackets.{closes?}
use Rattle.walk.proofs.brackets.closes.Goals as goal

pub returns : goal.returns
unfolding closes?
returns c = refl
