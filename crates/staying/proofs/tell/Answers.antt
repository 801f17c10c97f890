-- `tell` meets its contract: the chart is surely triggered exactly if one of the triggers noted holds; else its state
-- decides.
use mathlib.Core.Path.{sym, ◌∙◌}
use Rattle.staying.specs.Staying.Laws.{tells_shut, tells_closed, tells_open}
use Rattle.staying.proofs.tell.Goals as goal

pub returns-then-trips : goal.returns-then-trips
returns-then-trips c =
    let n = c.note_chart-have.ensures in
    tells_shut _ _ _ _ _ _ _ _ n.0 n.1 _ _ _ (sym c.trips.ensures ∙ c.if-trips.true)

pub returns-then-is_shut : goal.returns-then-is_shut
returns-then-is_shut c =
    let n = c.note_chart-have.ensures in
    tells_closed _ _ _ _ _ _ _ _ n.0 n.1 _ _ _ (sym c.trips.ensures ∙ c.if-trips.false)
    (sym c.is_shut.ensures ∙ c.if-is_shut.true)

pub returns : goal.returns
returns c =
    let n = c.note_chart-have.ensures in
    tells_open _ _ _ _ _ _ _ _ n.0 n.1 _ _ _ (sym c.trips.ensures ∙ c.if-trips.false)
    (sym c.is_shut.ensures ∙ c.if-is_shut.false)
