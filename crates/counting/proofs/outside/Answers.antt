-- `outside` meets its contract, by whether the row has a master.
use native.Mathlib.Omega.{arith}
use Rattle.counting.specs.Counting.Laws.{outside_no, outside_yes}
use Rattle.counting.proofs.outside.Goals as goal

pub returns-then-wide-lt-CHARTS : goal.returns-then-wide-lt-CHARTS
returns-then-wide-lt-CHARTS c =
    let a = c.args in
    outside_no a.masters.now a.counts.now a.d (omega arith)

pub returns : goal.returns
returns c =
    let a = c.args in
    outside_yes a.masters.now a.counts.now a.d (omega arith)
