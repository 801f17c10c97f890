-- `transition_at` meets its contract: its parts are read one after another.
use mathlib.Core.Path.{refl}
use Rattle.fields.specs.Laws.Transitions.{transition-right}
use Rattle.fields.proofs.transition_at.Goals as goal

pub returns : goal.returns
returns c =
    transition-right _ _ _ _ _ _ _ _ _ _ c.behind_sign.ensures c.name_at-a.ensures c.behind_sign-2.ensures
    c.name_at-b.ensures c.behind_sign-3.ensures c.guard_at-g.ensures c.set-s.ensures
    c.behind_sign-4.ensures
    refl refl refl refl refl refl

pub name_at-a-requires : goal.name_at-a-requires
name_at-a-requires c = c.behind_sign.ensures.within

pub behind_sign-requires-2 : goal.behind_sign-requires-2
behind_sign-requires-2 c = c.name_at-a.ensures.is.within

pub name_at-b-requires : goal.name_at-b-requires
name_at-b-requires c = c.behind_sign-2.ensures.within

pub behind_sign-requires-3 : goal.behind_sign-requires-3
behind_sign-requires-3 c = c.name_at-b.ensures.is.within

pub guard_at-g-requires : goal.guard_at-g-requires
guard_at-g-requires c = c.behind_sign-3.ensures.within

pub set-s-requires : goal.set-s-requires
set-s-requires c = c.guard_at-g.ensures.within

pub behind_sign-requires-4 : goal.behind_sign-requires-4
behind_sign-requires-4 c = c.set-s.ensures.within
