-- `is_over` meets its contract: it is the definition.
use mathlib.Core.Path.{refl}
use Rattle.meaning.specs.Meaning.{same}
use Rattle.texts.specs.Shapes.{over?}
use Rattle.texts.proofs.is_over.Goals as goal

pub returns : goal.returns
unfolding over? same
returns c = refl
