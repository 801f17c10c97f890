-- `signals::has` meets its contract: its body is the definition of `bit`.
use mathlib.Core.Path.{refl}
use Rattle.signals.specs.Mask.{bit}
use Rattle.signals.proofs.has.Goals as goal

pub returns : goal.returns
unfolding bit
returns c = refl
