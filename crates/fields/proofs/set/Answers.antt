-- `set` meets its contract: the byte behind the opening brace tells whether the set is empty.
use mathlib.Core.Path.{refl, sym, ◌∙◌}
use Rattle.fields.specs.Laws.Sets.{set_empty, set_some}
use Rattle.fields.proofs.set.Goals as goal

pub returns-then-peek-eq125 : goal.returns-then-peek-eq125
returns-then-peek-eq125 c =
    set_empty _ _ _ c.behind_sign-i.ensures _ (sym c.peek.ensures ∙ c.if-peek-eq125.true)
    c.behind_sign.ensures
    refl refl

pub returns : goal.returns
returns c =
    set_some _ _ _ c.behind_sign-i.ensures _ (λ e. c.if-peek-eq125.false (c.peek.ensures ∙ e)) c.members.ensures

pub peek-requires : goal.peek-requires
peek-requires c = c.behind_sign-i.ensures.within

pub behind_sign-requires : goal.behind_sign-requires
behind_sign-requires c = c.behind_sign-i.ensures.within

pub members-requires : goal.members-requires
members-requires c = c.behind_sign-i.ensures.within
