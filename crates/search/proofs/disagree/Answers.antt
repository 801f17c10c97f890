-- `search::disagree` meets its contract: both bytes are tested as the definition says.
use mathlib.Core.Path.{refl}
use Rattle.meaning.specs.Meaning.{same}
use Rattle.search.proofs.disagree.Goals as goal

pub returns : goal.returns
unfolding same
returns c g = refl
