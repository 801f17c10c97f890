-- `used` meets its contract.
use mathlib.Core.Path.{ap₂}
use Rattle.signals.specs.Mask.{◌∪◌}
use Rattle.meaning.specs.File.{file_at}
use Rattle.meaning.specs.Rewriting.{used}
use Rattle.allocation.proofs.used.Goals as goal

pub returns : goal.returns
unfolding used file_at
returns c = ap₂ ◌∪◌ c.used_by_charts.ensures c.used_by_nodes.ensures
