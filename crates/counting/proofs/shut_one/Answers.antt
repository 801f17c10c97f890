-- `shut_one` meets its contract: nothing is shut for a chart that has open choices, or that stands in no chart's slave.
use native.Mathlib.Omega.{arith}
use lib.ListN.{length-set}
use Rattle.counting.specs.Counting.Laws.{shut_counts, shut_outside, shut_more}
use Rattle.counting.proofs.shut_one.Goals as goal

pub returns-then-counts-d-ne0 : goal.returns-then-counts-d-ne0
returns-then-counts-d-ne0 c =
    let a = c.args in (
      c.requires.3,
      shut_counts a.charts a.config.now a.masters.now a.states.now a.counts.now a.shut.now a.d
          c.if-counts-d-ne0.true,
    )

pub returns-then-c-charts : goal.returns-then-c-charts
returns-then-c-charts c =
    let a = c.args in (
      c.requires.3,
      shut_outside a.charts a.config.now a.masters.now a.states.now a.counts.now
          a.shut.now a.d
          (omega (arith, c.if-c-charts.true, c.wide-c.ensures)),
    )

pub returns : goal.returns
returns c =
    let a = c.args in (
      simp length-set c.requires.3,
      rw c.wide-c.ensures
          (shut_more a.charts a.config.now a.masters.now a.states.now a.counts.now
          a.shut.now a.d
          c.shut_by.result c.if-counts-d-ne0.false (omega (arith, c.if-c-charts.false, c.wide-c.ensures, c.requires.2, c.requires.3))
          (rw c.wide-c.ensures at c.shut_by.ensures)),
    )
