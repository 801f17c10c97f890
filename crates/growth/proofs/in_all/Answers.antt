use mathlib.Core.Path.{◌≡◌, sym, ◌∙◌}
use native.Mathlib.Omega.{arith}
use lib.ListN.{length}
use Rattle.meaning.specs.Sums.Laws.{tally-none, tally-more, tally-done}
use Rattle.meaning.specs.File.{file_at}
use Rattle.meaning.specs.Rewriting.{rewritten_chart, transitions_in}
use Rattle.growth.specs.Growth.Laws.{length_rewritten}
use Rattle.growth.proofs.in_all.Goals as goal
use Rattle.growth.proofs.in_all.Goals.{After-in_chart-sum}

pub loop-c-init : goal.loop-c-init
loop-c-init c = (omega arith, sym (tally-none _))

-- what was counted is the chart's number
is : (c : After-in_chart-sum)
    → c.in_chart-sum.result ≡ length (rewritten_chart
    (file_at c.args.n
    c.args.body.now)
    c.loop-c.c).transitions
unfolding file_at
is c = c.in_chart-sum.ensures.0
    ∙ sym (length_rewritten _ _ _ c.head_at.ensures
    (c.requires.1 _ (omega arith)))

pub loop-c-preserved : goal.loop-c-preserved
loop-c-preserved c =
    let a = c.args in
    let m = c.in_chart-sum.ensures.1 in (
      omega arith,
      omega
          (arith, is (goal.at.loop-c-preserved c).After-in_chart-sum, tally-more c.loop-c.c (λ d. length (rewritten_chart (file_at a.n a.body.now) d).transitions)),
    )

pub returns : goal.returns
unfolding transitions_in file_at
returns c = c.loop-c.invariant.1 ∙ tally-done _ _ _ c.loop-c.auto.c-end c.loop-c-test.false

pub head_at-requires : goal.head_at-requires
head_at-requires c = (c.requires.0.sized.holds, omega arith)
