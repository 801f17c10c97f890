-- `fed_back` meets its contract.
use mathlib.Core.Path.{ap₂}
use Rattle.signals.specs.Mask.{◌∪◌}
use Rattle.meaning.specs.File.{file_at}
use Rattle.meaning.specs.Plain.{fed_back}
use Rattle.plain.proofs.fed_back.Goals as goal

pub returns : goal.returns
unfolding fed_back file_at
returns c = ap₂ ◌∪◌ c.fed_by_charts.ensures c.fed_by_nodes.ensures
