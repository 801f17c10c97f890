-- `factor` meets its contract, by what the move activates.
use native.Mathlib.Omega.{arith}
use Rattle.counting.specs.Counting.Laws.{factor_other, factor_before, factor_after, factor_none}
use Rattle.counting.proofs.factor.Goals as goal

-- in no slave of chart c
pub returns-then-wide-c : goal.returns-then-wide-c
returns-then-wide-c c =
    let a = c.args in
    factor_other a.masters.now a.states.now a.counts.now a.c a.q a.u a.d (λ z. omega arith)

-- in one of the state before, of the state after, of neither
pub returns-then-s-q : goal.returns-then-s-q
returns-then-s-q c =
    let a = c.args in
    factor_before a.masters.now a.states.now a.counts.now a.c a.q a.u a.d (omega arith)
    (omega arith)

pub returns-then-s-u : goal.returns-then-s-u
returns-then-s-u c =
    let a = c.args in
    factor_after a.masters.now a.states.now a.counts.now a.c a.q a.u a.d (omega arith)
    (omega arith)

pub returns : goal.returns
returns c =
    let a = c.args in
    factor_none a.masters.now a.states.now a.counts.now a.c a.q a.u a.d (omega arith)
    (λ z. omega arith) (λ z. omega arith)
