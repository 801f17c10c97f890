-- `levels::closed` meets its contract: the innermost level is the one before it.
use mathlib.Core.Path.{refl}
use Rattle.levels.specs.Laws.Ring.{stands_close}
use Rattle.levels.proofs.closed.Goals as goal

pub returns : goal.returns
returns c = (
  refl,
  (
    (refl, refl),
    λ text ring places ls h. stands_close text ring places _ _ _ ls h c.requires.1 _
        c.slot.ensures.0,
  ),
)
