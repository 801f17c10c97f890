use mathlib.Core.Path.{◌≡◌, sym, ap, ◌∙◌}
use mathlib.Core.Bool.{false, not}
use mathlib.Core.List.{List}
use Prim.Native.Nat.{ℕ}
use native.Mathlib.Omega.{arith}
use lib.Dec.{eqb}
use Rattle.layout.specs.Body.{start_of}
use Rattle.layout.specs.declared.body.Shape.{Shape}
use Rattle.layout.specs.declared.record.Head.{Head}
use Rattle.meaning.specs.Meaning.{same}
use Rattle.meaning.specs.Sums.{any_up_to}
use Rattle.meaning.specs.Sums.Laws.{any_none, any-more, any_at}
use Rattle.meaning.specs.Check.{chart?, charts?}
use Rattle.layout.specs.Body.Laws.{start_of-none, start_of-next}
use Rattle.checks.proofs.charts.bad_charts.Goals as goal
use Rattle.checks.proofs.charts.bad_charts.Goals.{After-bad_chart}

pub loop-c-init : goal.loop-c-init
loop-c-init c = (omega arith, sym (start_of-none _ _), any_none _)

-- what the code asks of the chart is `chart?`
asked : (c : After-bad_chart)
    → c.bad_chart.result ≡ chart? c.args.n
    c.args.body.now
    c.loop-c.c
unfolding chart?
asked c = c.bad_chart.ensures ∙ rw c.head_at-h.ensures

pub returns-then-bad_chart : goal.returns-then-bad_chart
unfolding charts?
returns-then-bad_chart c =
    rw (any_at _ (chart? _ _) c.loop-c.c c.loop-c-test.true
    (sym (asked (goal.at.returns-then-bad_chart c).After-bad_chart) ∙ c.if-bad_chart.true))

pub loop-c-preserved : goal.loop-c-preserved
loop-c-preserved c =
    let a = c.args in (
      omega arith,
      omega (
        arith,
        start_of-next a.n a.body.now c.loop-c.c,
        ap (λ (h : Head). h.transitions) c.head_at-h.ensures,
      ),
      any-more _ _ c.loop-c.invariant.2 (sym (asked (goal.at.loop-c-preserved c).After-bad_chart) ∙ c.if-bad_chart.false),
    )

-- with all charts passed, the sum decides
summed : (n : Shape) (b : List ℕ) (c sum : ℕ) → c ≡ n.charts → sum ≡ start_of n b c → any_up_to c (chart? n b) ≡ false
    → not (eqb sum n.transitions) ≡ charts? n b
unfolding charts? same
summed n b c sum e s h =
    let h' : any_up_to n.charts (chart? n b) ≡ false = rw e at h in
    let s' : sum ≡ start_of n b n.charts = rw e at s in
    rw (h', s')

pub returns : goal.returns
returns c = summed _ _ c.loop-c.c c.loop-c.sum (omega arith) c.loop-c.invariant.1 c.loop-c.invariant.2

pub head_at-h-requires : goal.head_at-h-requires
head_at-h-requires c = (c.requires.holds, c.loop-c-test.true)
