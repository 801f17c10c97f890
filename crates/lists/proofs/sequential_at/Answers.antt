-- `sequential_at` meets its contract: its parts are read one after another.
use mathlib.Core.Path.{refl}
use Rattle.lists.specs.Laws.Sequentials.{sequential_right}
use Rattle.lists.proofs.sequential_at.Goals as goal

pub returns : goal.returns
returns c =
    sequential_right _ _ _ _ _ _ _ c.heading_at-h.ensures c.behind_sign.ensures c.transitions-l.ensures
    c.extra_at-x.ensures c.behind_sign-2.ensures refl refl refl refl refl refl refl
    refl

pub behind_sign-requires : goal.behind_sign-requires
behind_sign-requires c = c.heading_at-h.ensures.within

pub transitions-l-requires : goal.transitions-l-requires
transitions-l-requires c = c.behind_sign.ensures.within

pub extra_at-x-requires : goal.extra_at-x-requires
extra_at-x-requires c = c.transitions-l.ensures.within

pub behind_sign-requires-2 : goal.behind_sign-requires-2
behind_sign-requires-2 c = c.extra_at-x.ensures.within
