-- Row i begins before the end of i rows that are as long as can be.
use Rattle.std.proofs.Common.{◌+◌, ◌*◌, ◌≤◌}
use Rattle.meaning.specs.Numbers.{most_charts}
use Rattle.chart.proofs.tell.rows.Given as goal

abbrev pub invariant-loop-i : goal.invariant-loop-i
invariant-loop-i g l = l.at ≤ (10 + most_charts) * l.i
