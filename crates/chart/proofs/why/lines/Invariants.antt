-- Each place is one of the chart's list.
use Rattle.std.proofs.Common.{◌≡◌}
use Rattle.layout.specs.Body.{head_at}
use Rattle.chart.proofs.why.lines.Given as goal

abbrev pub invariant-loop-place : goal.invariant-loop-place
invariant-loop-place g l = l.count ≡ (head_at l.n l.body l.c).transitions
