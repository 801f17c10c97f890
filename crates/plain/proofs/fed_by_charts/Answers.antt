use mathlib.Core.Path.{◌≡◌, ap}
use native.Mathlib.Omega.{arith}
use Rattle.layout.specs.declared.record.Head.{Head}
use Rattle.meaning.specs.File.{file_at, chart_of}
use Rattle.meaning.proofs.Rewriting.Laws.{union_none, union_taken}
use Rattle.plain.proofs.fed_by_charts.Goals as goal

pub loop-c-init : goal.loop-c-init
loop-c-init c = union_none _

pub loop-c-preserved : goal.loop-c-preserved
unfolding file_at chart_of
loop-c-preserved c =
    union_taken c.loop-c.c _ c.loop-c.invariant (ap (λ (h : Head). h.feedback) c.head_at-h.ensures)

pub returns : goal.returns
returns c =
    let e : c.loop-c.c ≡ c.args.n.charts = omega arith in
    rw e at c.loop-c.invariant

pub head_at-h-requires : goal.head_at-h-requires
head_at-h-requires c = (c.requires, omega arith)
