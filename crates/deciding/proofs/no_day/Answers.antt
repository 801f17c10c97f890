-- `deciding::no_day` meets its contract.
use mathlib.Core.Path.{refl}
use Rattle.desk.specs.Turns.{no_day}
use Rattle.deciding.proofs.no_day.Goals as goal

pub returns : goal.returns
unfolding no_day
returns c = refl
