-- `transitions` meets its contract: the byte behind the opening brace tells whether the list is empty.
use mathlib.Core.Path.{refl, sym, ◌∙◌}
use Rattle.lists.specs.Laws.Transitions.{transitions_none, transitions_some}
use Rattle.lists.proofs.transitions.Goals as goal

pub returns-then-peek-eq125 : goal.returns-then-peek-eq125
returns-then-peek-eq125 c =
    transitions_none _ _ _ _ c.behind_sign-i.ensures _ (sym c.peek.ensures ∙ c.if-peek-eq125.true)
    c.behind_sign.ensures refl refl

pub returns : goal.returns
returns c =
    transitions_some _ _ _ _ c.behind_sign-i.ensures _ (λ e. c.if-peek-eq125.false (c.peek.ensures ∙ e))
    c.transitions_from.ensures

pub peek-requires : goal.peek-requires
peek-requires c = c.behind_sign-i.ensures.within

pub behind_sign-requires : goal.behind_sign-requires
behind_sign-requires c = c.behind_sign-i.ensures.within

pub transitions_from-requires : goal.transitions_from-requires
transitions_from-requires c = c.behind_sign-i.ensures.within
