-- `recognise` meets its contract: to begin with, the ring has the level of the whole text, which is 0.
use mathlib.Core.Path.{refl}
use Rattle.levels.specs.Laws.Ring.{keeps-start}
use Rattle.levels.specs.Laws.Marks.{no_marks}
use Rattle.recogniser.proofs.recognise.Goals as goal

pub from_start-requires : goal.from_start-requires
from_start-requires c =
    (keeps-start _ _ _ _ refl refl refl refl refl refl refl refl, no_marks _ _ _ _ _ refl refl refl)
