-- `added` meets its contract: a transition from another state adds nothing.
use native.Mathlib.Omega.{arith}
use lib.ListN.{drop}
use Rattle.layout.specs.Record.{transition_of}
use Rattle.counting.specs.Counting.Laws.{adds-other, adds-own, adds-small}
use Rattle.counting.proofs.added.Goals as goal

pub returns-then-from-q : goal.returns-then-from-q
returns-then-from-q c =
    let a = c.args in
    adds-other a.n.charts a.masters.now a.states.now a.counts.now a.c a.q c.read_transition-r.result
    (transition_of (drop a.at a.body.now)) c.read_transition-r.ensures (λ z. omega arith)

pub branch-charts-requires : goal.branch-charts-requires
branch-charts-requires c =
    let a = c.args in (
      c.requires.1,
      adds-small a.n.charts a.masters.now a.states.now a.counts.now a.c a.q c.read_transition-r.result
          (transition_of (drop a.at a.body.now)) c.read_transition-r.ensures c.requires.2,
    )

pub returns : goal.returns
returns c =
    let a = c.args in
    adds-own a.n.charts a.masters.now a.states.now a.counts.now a.c a.q c.read_transition-r.result
    (transition_of (drop a.at a.body.now)) c.read_transition-r.ensures c.branch-charts.result (omega arith) c.branch-charts.ensures
