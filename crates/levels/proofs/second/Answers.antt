-- `levels::second` meets its contract.
use mathlib.Core.Path.{refl}
use Rattle.scan.specs.Levels.{second_of}
use Rattle.levels.specs.Laws.Ring.{stands_first}
use Rattle.levels.proofs.second.Goals as goal

pub returns : goal.returns
returns c = (
  refl,
  (
    (refl, refl),
    λ text places ls h. stands_first text _ places _ _ _ ls h c.requires.1 _
        c.slot-at.ensures.0 second_of _ c.second_of.ensures,
  ),
)
