-- `heading_at` meets its contract: its parts are read one after another.
use mathlib.Core.Path.{refl}
use Rattle.meaning.specs.Meaning.{same}
use Rattle.lists.specs.Laws.Headings.{heading_right}
use Rattle.lists.proofs.heading_at.Goals as goal

pub returns : goal.returns
unfolding same
returns c =
    heading_right _ _ _ _ _ _ _ _ _ _ _ c.behind_sign.ensures c.name_at-c.ensures c.behind_sign-2.ensures
    c.states-l.ensures c.behind_sign-3.ensures c.name_at-q.ensures c.behind_sign-4.ensures c.set-x.ensures
    refl refl refl refl refl refl refl
