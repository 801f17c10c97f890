-- `body::test_records` meets its contract: 6 to 8 in order, then 9 to 11. Assumes nothing.
use mathlib.Core.Path.{sym, ◌∙◌}
use Rattle.meaning.specs.Check.Laws.{first_of_here, first_of-next}
use Rattle.opening.proofs.body.test_records.Goals as goal

pub returns-then-bad_charts : goal.returns-then-bad_charts
returns-then-bad_charts c = sym (first_of_here _ _ (sym c.bad_charts.ensures ∙ c.if-bad_charts.true))

pub bad_transitions-requires : goal.bad_transitions-requires
bad_transitions-requires c = (c.requires, sym c.bad_charts.ensures ∙ c.if-bad_charts.false)

pub returns-then-bad_transitions : goal.returns-then-bad_transitions
returns-then-bad_transitions c =
    sym
    (first_of-next _ _ (sym c.bad_charts.ensures ∙ c.if-bad_charts.false)
    ∙ first_of_here _ _ (sym c.bad_transitions.ensures ∙ c.if-bad_transitions.true))

pub returns-then-bad_slaves : goal.returns-then-bad_slaves
returns-then-bad_slaves c =
    sym
    (first_of-next _ _ (sym c.bad_charts.ensures
    ∙ c.if-bad_charts.false)
    ∙ first_of-next _ _ (sym c.bad_transitions.ensures ∙ c.if-bad_transitions.false)
    ∙ first_of_here _ _ (sym c.bad_slaves.ensures ∙ c.if-bad_slaves.true))

pub test_nodes-requires : goal.test_nodes-requires
test_nodes-requires c = (
  c.requires,
  sym c.bad_slaves.ensures ∙ c.if-bad_slaves.false,
)

pub returns : goal.returns
returns c =
    c.test_nodes.ensures
    ∙ sym
    (first_of-next _ _ (sym c.bad_charts.ensures
    ∙ c.if-bad_charts.false)
    ∙ first_of-next _ _ (sym c.bad_transitions.ensures ∙ c.if-bad_transitions.false)
    ∙ first_of-next _ _ (sym c.bad_slaves.ensures ∙ c.if-bad_slaves.false))

pub bad_charts-requires : goal.bad_charts-requires
bad_charts-requires c = c.requires

pub bad_slaves-requires : goal.bad_slaves-requires
bad_slaves-requires c = c.requires
