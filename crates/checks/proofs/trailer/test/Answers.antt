-- `trailer::refusal` meets its contract: 2 to 4 in order. Assumes nothing.
use mathlib.Core.Path.{sym, ◌∙◌}
use Rattle.meaning.specs.Check.Laws.{first_of_here, first_of-next, first_of_[]}
use Rattle.checks.proofs.trailer.test.Goals as goal

pub returns-then-other_edition : goal.returns-then-other_edition
returns-then-other_edition c =
    sym (first_of_here _ _ (sym c.other_edition.ensures ∙ c.if-other_edition.true))

pub returns-then-bad_counts : goal.returns-then-bad_counts
returns-then-bad_counts c =
    sym
    (first_of-next _ _ (sym c.other_edition.ensures ∙ c.if-other_edition.false)
    ∙ first_of_here _ _ (sym c.bad_counts.ensures ∙ c.if-bad_counts.true))

pub returns-then-bad_distance : goal.returns-then-bad_distance
returns-then-bad_distance c =
    sym
    (first_of-next _ _ (sym c.other_edition.ensures
    ∙ c.if-other_edition.false)
    ∙ first_of-next _ _ (sym c.bad_counts.ensures ∙ c.if-bad_counts.false)
    ∙ first_of_here _ _ (sym c.bad_distance.ensures ∙ c.if-bad_distance.true))

pub returns : goal.returns
returns c =
    sym
    (first_of-next _ _ (sym c.other_edition.ensures
    ∙ c.if-other_edition.false)
    ∙ first_of-next _ _ (sym c.bad_counts.ensures ∙ c.if-bad_counts.false)
    ∙ first_of-next _ _ (sym c.bad_distance.ensures ∙ c.if-bad_distance.false)
    ∙ first_of_[])
