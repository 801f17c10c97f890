-- `form_at` meets its contract: the first byte tells the form, and behind a bracket whether a chart's name follows.
use mathlib.Core.Path.{sym, ◌∙◌}
use Rattle.forms.specs.Laws.Bytes.{form_dec, form_hidden, form_sequential, form_bracketed}
use Rattle.forms.proofs.form_at.Goals as goal

pub returns-then-b-eq68 : goal.returns-then-b-eq68
returns-then-b-eq68 c = form_dec _ _ (sym c.peek-b.ensures ∙ c.if-b-eq68.true)

pub returns-then-begins_chart : goal.returns-then-begins_chart
returns-then-begins_chart c =
    form_sequential _ _ _ (sym c.peek-b.ensures ∙ c.if-b-eq40.true) c.begins_chart.ensures
    c.if-begins_chart.true

pub returns-then-b-eq40 : goal.returns-then-b-eq40
returns-then-b-eq40 c =
    form_bracketed _ _ _ (sym c.peek-b.ensures ∙ c.if-b-eq40.true) c.begins_chart.ensures
    c.if-begins_chart.false

pub returns : goal.returns
returns c =
    form_hidden _ _ (λ e. c.if-b-eq68.false (c.peek-b.ensures ∙ e))
    (λ e. c.if-b-eq40.false (c.peek-b.ensures ∙ e))
