-- `heading` meets its contract: its parts are typed one after another.
use mathlib.Core.Path.{refl, ◌∙◌}
use Rattle.notation.specs.Grammar.{lpar, comma, lbrace, rbrace, letC, letQ, sign_bytes, letter, of_heading}
use Rattle.printing.specs.Laws.Prints.{prints_append}
use Rattle.printing.proofs.charts.heading.Goals as goal

pub shape_of-out : goal.shape_of-out
shape_of-out c =
    c.set.auto.out ∙ c.sign-feedback.auto.out ∙ c.name-behind_initial.auto.out ∙ c.sign-initial.auto.out ∙ c.sign-behind_brace.auto.out
    ∙ c.states-behind_states.auto.out ∙ c.sign-first.auto.out ∙ c.sign-brace.auto.out ∙ c.name-behind_name.auto.out ∙ c.sign-name.auto.out

pub returns : goal.returns
unfolding sign_bytes letter of_heading
returns c =
    prints_append (c.sign-name.ensures lpar refl)
    (prints_append (c.name-behind_name.ensures letC refl)
    (prints_append (c.sign-brace.ensures comma refl)
    (prints_append (c.sign-first.ensures lbrace refl)
    (prints_append c.states-behind_states.ensures
    (prints_append (c.sign-behind_brace.ensures rbrace refl)
    (prints_append (c.sign-initial.ensures comma refl)
    (prints_append (c.name-behind_initial.ensures letQ refl)
    (prints_append (c.sign-feedback.ensures comma refl)
    c.set.ensures))))))))
