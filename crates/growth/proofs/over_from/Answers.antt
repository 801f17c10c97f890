use mathlib.Core.Path.{◌≡◌, sym, ap, ap₂, ◌∙◌}
use mathlib.Core.List.{List}
use Prim.Native.Nat.{ℕ, ◌+◌, ◌≤◌}
use native.Mathlib.Omega.{arith}
use lib.Dec.{ltb}
use Rattle.layout.specs.Body.{head_at, transition_at, start_of, from}
use Rattle.layout.specs.Body.Laws.{start_of-none}
use Rattle.layout.specs.declared.body.Shape.{Shape}
use Rattle.layout.specs.declared.record.Head.{Head}
use Rattle.layout.specs.declared.record.Transition.{Transition}
use Rattle.meaning.specs.Sums.{any_up_to}
use Rattle.meaning.specs.Sums.Laws.{any_none, any-more, any_at, any-done, any_cong}
use Rattle.meaning.specs.File.{file_at, chart_of}
use Rattle.meaning.specs.Rewriting.{call, call_in, nearest_slave, chart_with, rewritten_chart, leaving_in}
use Rattle.growth.specs.Growth.{idle_count}
use Rattle.growth.specs.Growth.Laws.{leaving_is, count_most}
use Rattle.checks.specs.Known.Laws.{in_all, start-next, own_are}
use Rattle.growth.proofs.over_from.Goals as goal
use Rattle.growth.proofs.over_from.Goals.{After-head_at-h, After-over_from_states}
use Rattle.growth.proofs.over_from.Invariants.{over}

over_is : (n : Shape) (b : List ℕ) (m c s : ℕ) (h : Head) (κ idle : ℕ) → h ≡ head_at n b c → s ≡ start_of n b c
    → κ ≡ call_in (call (file_at n b)) (nearest_slave (file_at n b) c) → idle ≡ idle_count κ 1
    → any_up_to h.states (λ x. ltb m (leaving_in (from (transition_at n b) s h.transitions) x + idle)) ≡ over n b m c
unfolding rewritten_chart chart_with file_at chart_of
over_is n b m c s h κ idle eh es ek ei =
    ap (λ (k : ℕ). any_up_to k (λ x. ltb m (leaving_in (from (transition_at n b) s h.transitions) x + idle)))
    (ap (λ (h : Head). h.states) eh)
    ∙ any_cong (head_at n b c).states _ _
    (λ x l. ap (ltb m) (ap₂ (λ (ts : List Transition) (i : ℕ). leaving_in ts x + i) (sym (own_are n b c s eh es)) ei
    ∙ sym (leaving_is (file_at n b) c κ ek x l)))

pub loop-c-init : goal.loop-c-init
loop-c-init c = (sym (start_of-none _ _), any_none _)

room : (c : After-head_at-h)
    → c.loop-c.start + c.head_at-h.result.transitions
    ≤ c.args.n.transitions
room c = in_all _ _ _ _ c.head_at-h.ensures c.loop-c.invariant.0
    c.requires.0.summed
    c.loop-c-test.true

-- what was asked of the chart
asked : (c : After-over_from_states)
    → c.over_from_states.result ≡ over c.args.n
    c.args.body.now
    c.args.most
    c.loop-c.c
unfolding file_at
asked c =
    c.over_from_states.ensures
    ∙ over_is _ _ _ c.loop-c.c _ _ _ _
    c.head_at-h.ensures
    c.loop-c.invariant.0
    (c.requires.1 _
    c.loop-c-test.true)
    c.idle_count.ensures

pub returns-then-over_from_states : goal.returns-then-over_from_states
returns-then-over_from_states c =
    sym (any_at _ (over _ _ _) c.loop-c.c
    c.loop-c-test.true (sym (asked (goal.at.returns-then-over_from_states c).After-over_from_states) ∙ c.if-over_from_states.true))

pub loop-c-preserved : goal.loop-c-preserved
loop-c-preserved c = (
  start-next _ _ _ _ c.head_at-h.ensures c.loop-c.invariant.0,
  any-more _ _ c.loop-c.invariant.1 (sym (asked (goal.at.loop-c-preserved c).After-over_from_states) ∙ c.if-over_from_states.false),
)

pub returns : goal.returns
returns c = any-done _ _ _ c.loop-c.auto.c-end c.loop-c-test.false c.loop-c.invariant.1

pub head_at-h-requires : goal.head_at-h-requires
head_at-h-requires c = (c.requires.0.sized.holds, c.loop-c-test.true)

pub over_from_states-requires : goal.over_from_states-requires
over_from_states-requires c = (
  c.requires.0.sized.holds,
  room (goal.at.over_from_states-requires c).After-head_at-h,
  rw c.idle_count.ensures (count_most _ 1),
)

pub overflow_add-start : goal.overflow_add-start
overflow_add-start c =
    let r = room (goal.at.overflow_add-start c).After-head_at-h in
    let h = c.requires.0.sized.transitions in
    omega arith
