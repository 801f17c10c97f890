use mathlib.Core.Path.{◌≡◌, sym, ap, ap₂, ◌∙◌}
use mathlib.Core.List.{List}
use Prim.Native.Nat.{ℕ, ◌+◌, ◌≤◌}
use native.Mathlib.Omega.{arith}
use Rattle.signals.specs.Mask.{◌∪◌}
use Rattle.layout.specs.Body.{head_at, start_of, from, transition_at}
use Rattle.layout.specs.Body.Laws.{start_of-none}
use Rattle.layout.specs.declared.body.Shape.{Shape}
use Rattle.layout.specs.declared.record.Head.{Head}
use Rattle.layout.specs.declared.record.Transition.{Transition}
use Rattle.meaning.specs.Meaning.{Set, guards, actions}
use Rattle.meaning.specs.File.{file_at, chart_of}
use Rattle.meaning.proofs.Rewriting.Laws.{union_none, union_more}
use Rattle.checks.specs.Known.Laws.{in_all, start-next, own_are}
use Rattle.allocation.proofs.used_by_charts.Goals as goal
use Rattle.allocation.proofs.used_by_charts.Goals.{After-head_at-h}
use Rattle.allocation.proofs.used_by_charts.Invariants.{of_chart}

-- h is the head of chart c, whose transitions begin at s
of-chart : (n : Shape) (b : List ℕ) (c s : ℕ) (h : Head) (own : Set) → h ≡ head_at n b c → s ≡ start_of n b c
    → own ≡ guards (from (transition_at n b) s h.transitions) ∪ actions (from (transition_at n b) s h.transitions)
    → own ∪ h.feedback ∪ h.extra ≡ of_chart n b c
unfolding file_at chart_of
of-chart n b c s h own eh es eo =
    ap₂ ◌∪◌ (ap₂ ◌∪◌ (eo ∙ ap (λ (ts : List Transition). guards ts ∪ actions ts) (sym (own_are n b c s eh es)))
    (ap (λ (h : Head). h.feedback) eh))
    (ap (λ (h : Head). h.extra) eh)

pub loop-c-init : goal.loop-c-init
loop-c-init c = (sym (start_of-none _ _), union_none _)

room : (c : After-head_at-h)
    → c.loop-c.start
    + c.head_at-h.result.transitions ≤ c.args.n.transitions
room c = in_all _ _ _ _ c.head_at-h.ensures c.loop-c.invariant.0
    c.requires.summed c.loop-c-test.true

pub loop-c-preserved : goal.loop-c-preserved
loop-c-preserved c =
    let e = c.head_at-h.ensures in (
      start-next _ _ _ _ e c.loop-c.invariant.0,
      ap₂ ◌∪◌ c.loop-c.invariant.1 (of-chart _ _ c.loop-c.c c.loop-c.start _ _ e c.loop-c.invariant.0 c.used_by-own.ensures)
          ∙ union_more c.loop-c.c _,
    )

pub returns : goal.returns
returns c =
    let e : c.loop-c.c ≡ c.args.n.charts = omega arith in
    rw e at c.loop-c.invariant.1

pub head_at-h-requires : goal.head_at-h-requires
head_at-h-requires c = (c.requires.sized.holds, omega arith)

pub used_by-own-requires : goal.used_by-own-requires
used_by-own-requires c =
    (c.requires.sized.holds, room (goal.at.used_by-own-requires c).After-head_at-h)

pub overflow_add-start : goal.overflow_add-start
overflow_add-start c =
    let r = room (goal.at.overflow_add-start c).After-head_at-h in
    let t = c.requires.sized.transitions in
    omega arith
