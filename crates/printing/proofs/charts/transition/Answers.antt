-- `transition` meets its contract: its parts are typed one after another.
use mathlib.Core.Path.{refl, ◌∙◌}
use Rattle.notation.specs.Grammar.{lpar, rpar, comma, slash, letQ, sign_bytes, letter, of_transition}
use Rattle.spelling.specs.Typed.{transition_of}
use Rattle.printing.specs.Laws.Prints.{prints_append}
use Rattle.printing.proofs.charts.transition.Goals as goal

pub shape_of-out : goal.shape_of-out
shape_of-out c =
    c.sign.auto.out ∙ c.set-end.auto.out ∙ c.sign-action.auto.out ∙ c.guard-slash.auto.out ∙ c.sign-guard.auto.out
    ∙ c.name-behind_to.auto.out ∙ c.sign-to.auto.out ∙ c.name-behind_from.auto.out ∙ c.sign-from.auto.out

pub returns : goal.returns
unfolding sign_bytes letter of_transition transition_of
returns c =
    prints_append (c.sign-from.ensures lpar refl)
    (prints_append (c.name-behind_from.ensures letQ refl)
    (prints_append (c.sign-to.ensures comma refl)
    (prints_append (c.name-behind_to.ensures letQ refl)
    (prints_append (c.sign-guard.ensures comma refl)
    (prints_append c.guard-slash.ensures
    (prints_append (c.sign-action.ensures slash refl)
    (prints_append c.set-end.ensures
    (c.sign.ensures rpar refl))))))))
