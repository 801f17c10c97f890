-- `told_apart` meets its contract.
use mathlib.Core.Path.{ap}
use Rattle.meaning.specs.Meaning.{Set, ∅, same}
use Rattle.meaning.specs.Check.{differ}
use Rattle.meaning.specs.Plain.{told_apart}
use Rattle.plain.proofs.told_apart.Goals as goal

pub returns : goal.returns
unfolding told_apart same
returns c = ap (λ (s : Set). differ s ∅) c.less.ensures
