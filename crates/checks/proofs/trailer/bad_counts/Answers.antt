use mathlib.Core.Path.{refl}
use Rattle.meaning.specs.Meaning.{same}
use Rattle.meaning.specs.Check.{counts?}
use Rattle.checks.proofs.trailer.bad_counts.Goals as goal

-- src/trailer.rt:25:1
pub returns : goal.returns
unfolding counts? same
returns c = refl
