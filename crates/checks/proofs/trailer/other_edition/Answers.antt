-- `trailer::other_edition` meets its contract. Assumes nothing.
use mathlib.Core.Path.{refl}
use Rattle.meaning.specs.Meaning.{same}
use Rattle.meaning.specs.Check.{edition?}
use Rattle.checks.proofs.trailer.other_edition.Goals as goal

pub returns : goal.returns
unfolding edition? same
returns c = refl
