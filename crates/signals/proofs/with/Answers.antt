-- `signals::with` meets its contract.
use mathlib.Core.Path.{ap}
use Rattle.signals.specs.Mask.{◌∪◌}
use Rattle.signals.proofs.with.Goals as goal

pub returns : goal.returns
returns c = ap (◌∪◌ c.args.s) c.single.ensures
