-- `levels::opened` meets its contract: the level stands where the ring ends.
use mathlib.Core.Path.{refl}
use Rattle.levels.specs.Laws.Ring.{stands_open}
use Rattle.levels.proofs.opened.Goals as goal

pub returns : goal.returns
returns c =
    let w = c.with_room-j.ensures in (
      refl,
      λ text ls a h.
          let s = w.1.1 text ls h in
          (stands_open text _ _ _ _ _ ls s.0 w.1.0 _ _ a, s.1),
    )
