-- `is_dead` meets its contract, by computation.
use mathlib.Core.Path.{refl}
use Rattle.meaning.specs.Meaning.{same}
use Rattle.clearing.specs.Clearing.{dead}
use Rattle.clearing.proofs.is_dead.Goals as goal

pub returns : goal.returns
unfolding dead same
returns c = refl
