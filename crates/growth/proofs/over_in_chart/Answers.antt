use mathlib.Core.Path.{◌≡◌, sym, ◌∙◌}
use native.Mathlib.Omega.{arith}
use borrow.Author.Tests.{lt-ltb, le-ltb}
use lib.ListN.{length}
use Rattle.meaning.specs.Sums.Laws.{any_none, any-more, any_at, any-done}
use Rattle.meaning.specs.File.{file_at}
use Rattle.meaning.specs.Rewriting.{rewritten_chart}
use Rattle.growth.specs.Growth.Laws.{length_rewritten}
use Rattle.growth.proofs.over_in_chart.Goals as goal
use Rattle.growth.proofs.over_in_chart.Goals.{After-in_chart}

pub loop-c-init : goal.loop-c-init
loop-c-init c = any_none _

-- what was counted is the chart's number
is : (c : After-in_chart)
    → c.in_chart.result ≡ length (rewritten_chart
    (file_at c.args.n
    c.args.body.now)
    c.loop-c.c).transitions
unfolding file_at
is c = c.in_chart.ensures.0
    ∙ sym (length_rewritten _ _ _ c.head_at.ensures
    (c.requires.1 _ (omega arith)))

pub returns-then-most-in_chart : goal.returns-then-most-in_chart
returns-then-most-in_chart c =
    sym (any_at _ _ c.loop-c.c (omega arith)
    (lt-ltb _ _ (rw (is (goal.at.returns-then-most-in_chart c).After-in_chart) at c.if-most-in_chart.true)))

pub loop-c-preserved : goal.loop-c-preserved
loop-c-preserved c = any-more _ _ c.loop-c.invariant
    (le-ltb _ _ (rw (is (goal.at.loop-c-preserved c).After-in_chart) at c.if-most-in_chart.false))

pub returns : goal.returns
returns c = any-done _ _ _ c.loop-c.auto.c-end c.loop-c-test.false c.loop-c.invariant

pub head_at-requires : goal.head_at-requires
head_at-requires c = (c.requires.0.sized.holds, omega arith)
