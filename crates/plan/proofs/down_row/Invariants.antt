-- `plan::down_row` meets its contract: the entries below c are there.
use mathlib.Core.Path.{◌≡◌}
use lib.ListN.{length}
use Rattle.meaning.specs.Numbers.{most_charts}
use Rattle.plan.specs.ByNode.{DownRow}
use Rattle.plan.proofs.down_row.Given as goal

abbrev pub invariant-loop-c : goal.invariant-loop-c
invariant-loop-c l = (length l.row ≡ most_charts) × DownRow l.set l.down l.c l.row
