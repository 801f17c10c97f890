-- `called` meets its contract.
use mathlib.Core.Path.{refl}
use Rattle.assembly.specs.Records.{called_with}
use Rattle.assembly.proofs.called.Goals as goal

pub returns : goal.returns
unfolding called_with
returns c = refl
