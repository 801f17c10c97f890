-- `is_letter` meets its contract.
use mathlib.Core.Path.{refl}
use Rattle.lists.specs.Found.{letter?}
use Rattle.lists.proofs.is_letter.Goals as goal

pub returns : goal.returns
unfolding letter?
returns c = refl
