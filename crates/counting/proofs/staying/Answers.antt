-- `staying` meets its contract, by the edition.
use native.Mathlib.Omega.{arith}
use Rattle.counting.specs.Counting.Laws.{staying_no, staying_yes}
use Rattle.counting.proofs.staying.Goals as goal

pub returns-then-n : goal.returns-then-n
returns-then-n c =
    let a = c.args in
    staying_no a.n a.masters.now a.states.now a.counts.now a.c a.q (λ z. omega arith)

pub returns : goal.returns
returns c =
    let a = c.args in
    staying_yes a.n a.masters.now a.states.now a.counts.now a.c a.q c.branch-charts.result
    (omega arith) c.branch-charts.ensures
