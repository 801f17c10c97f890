use mathlib.Core.Path.{refl}
use Rattle.meaning.specs.Meaning.{same}
use Rattle.checks.proofs.charts.bad_chart.Goals as goal

-- src/charts.rt:12:1
pub returns : goal.returns
unfolding same
returns c = refl
