-- `lasts` meets its contract: the guard may be met, and the target is not shut.
use mathlib.Core.Path.{ap, ap₂, sym, ◌∙◌}
use mathlib.Core.Bool.{◌&&◌, not}
use Rattle.meaning.specs.Laws.Guards.{met_is}
use Rattle.tables.specs.Insertion.{lasts_by}
use Rattle.candidates.proofs.lasts.Goals as goal

pub returns : goal.returns
unfolding lasts_by
returns c = ap₂ ◌&&◌ (c.holds.ensures ∙ sym (met_is _ _ _)) (ap not c.is_shut.ensures)
