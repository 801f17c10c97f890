-- `body::test` meets its contract: 5, then 6 to 11. Assumes nothing.
use mathlib.Core.Path.{sym, ap₂, ◌∙◌}
use mathlib.Core.Bool.{◌||◌}
use Rattle.meaning.specs.Check.Laws.{first_of_here, first_of-next}
use Rattle.opening.proofs.body.test.Goals as goal

pub returns-then-nonzero-bad_zeros : goal.returns-then-nonzero-bad_zeros
returns-then-nonzero-bad_zeros c =
    sym (first_of_here _ _
    (sym (ap₂ ◌||◌ c.nonzero.ensures c.bad_zeros.ensures) ∙ c.if-nonzero-bad_zeros.true))

pub returns : goal.returns
returns c =
    c.test_records.ensures
    ∙ sym (first_of-next _ _
    (sym (ap₂ ◌||◌ c.nonzero.ensures c.bad_zeros.ensures)
    ∙ c.if-nonzero-bad_zeros.false))
