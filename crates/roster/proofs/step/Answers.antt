-- `step` meets its contract: where a chart begins it is entered, and any other token is passed.
use Rattle.roster.specs.Walk.{moved}
use Rattle.roster.specs.Laws.Walk.{walked_found, walked_passed}
use Rattle.roster.proofs.step.Goals as goal

pub returns-then-begins_chart : goal.returns-then-begins_chart
returns-then-begins_chart c =
    walked_found _ _ c.requires _ c.begins_chart.ensures c.if-begins_chart.true _ _
    c.sequential_at.ensures c.entered.ensures

pub returns : goal.returns
unfolding moved
returns c =
    walked_passed _ _ c.requires _ c.begins_chart.ensures c.if-begins_chart.false _
    c.behind_token-next.ensures
