use mathlib.Core.Path.{◌≡◌, refl, sym, ap, ◌∙◌}
use Prim.Native.Nat.{ℕ, ◌+◌, ◌≤◌, ◌<◌}
use native.Mathlib.Omega.{arith}
use Rattle.layout.specs.Body.{head_at, transition_at}
use Rattle.layout.specs.declared.record.Head.{Head}
use Rattle.meaning.specs.Numbers.{most_states}
use Rattle.meaning.specs.Sums.Laws.{any_none, any-more, any_at}
use Rattle.meaning.specs.Check.{in_chart}
use Rattle.layout.specs.Body.Laws.{start_of-none, start_of-next, start_of_mono}
use Rattle.meaning.specs.Check.Laws.{charted, summed, bad_at, transitions_walked}
use Rattle.checks.specs.Walk.Laws.{counts-none, counts-more, next_is, from_in}
use Rattle.checks.proofs.charts.bad_transitions.Goals as goal
use Rattle.checks.proofs.charts.bad_transitions.Goals.{After-bad_transition, After-head_at-h, After-transition_at, In-loop-t}

pub scan-init : goal.scan-init
scan-init c = (sym (start_of-none _ _), refl, any_none _)

pub head_at-h-requires : goal.head_at-h-requires
head_at-h-requires c = (c.requires.0.holds, c.scan-test.true)

pub loop-t-init : goal.loop-t-init
loop-t-init c = (c.scan.invariant.1, any_none _, counts-none _ _ _)

-- the next transition is one of the file's
within : (c : In-loop-t)
    → c.scan.start + c.loop-t.t < c.args.n.transitions
within c =
    let a = c.args in
    let h = ap (λ (r : Head). r.transitions) c.head_at-h.ensures in
    omega (
      arith,
      start_of_mono a.n a.body.now c.scan.c a.n.charts
          c.scan-test.true,
      summed a.n a.body.now c.requires.1,
    )

-- the chart's states fit the table
few : (c : After-head_at-h)
    → (head_at c.args.n c.args.body.now
    c.scan.c).states ≤ most_states
few c = (charted _ _ c.requires.1 c.scan.c
    c.scan-test.true).states

-- the transition read is transition t of the chart
is : (c : After-transition_at)
    → c.transition_at.result ≡ in_chart c.args.n
    c.args.body.now
    c.scan.c
    c.loop-t.t
is c =
    c.transition_at.ensures
    ∙ ap (λ (k : ℕ). transition_at c.args.n c.args.body.now (k + c.loop-t.t)) c.scan.invariant.0

-- what the code asks of it is `bad_at`
asked : (c : After-bad_transition)
    → c.bad_transition.result
    ≡ bad_at c.args.n
    c.args.body.now
    c.scan.c c.loop-t.t
asked c =
    c.bad_transition.ensures.0
    ∙ rw (is (goal.at.After-bad_transition c).After-transition_at, c.head_at-h.ensures)
    (next_is _ _ _ _ _ c.loop-t.invariant.2 (few (goal.at.After-bad_transition c).After-head_at-h))

pub loop-t-preserved : goal.loop-t-preserved
loop-t-preserved c =
    let i = c.loop-t.invariant in
    let g = sym (asked (goal.at.loop-t-preserved c).After-bad_transition) ∙ c.if-bad_transition.false in
    let f = few (goal.at.loop-t-preserved c).After-head_at-h in
    let l = from_in _ _ _ _ g in (
      i.0,
      any-more _ _ i.1 g,
      rw (c.bad_transition.ensures.1 c.if-bad_transition.false, is (goal.at.loop-t-preserved c).After-transition_at)
          (counts-more _ _ _ _ _ i.2 (omega arith)),
    )

pub scan-preserved : goal.scan-preserved
scan-preserved c =
    let i = c.loop-t.invariant in
    let a = c.args in
    let h = ap (λ (r : Head). r.transitions) c.head_at-h.ensures in
    let e : c.loop-t.t ≡ (head_at a.n a.body.now c.scan.c).transitions = omega arith in (
      omega (arith, start_of-next a.n a.body.now c.scan.c),
      i.0,
      any-more _ _ c.scan.invariant.2 (rw e at i.1),
    )

pub returns-after-scan : goal.returns-after-scan
returns-after-scan c =
    let i = c.scan.invariant in
    let e : c.scan.c ≡ c.args.n.charts = omega arith in
    i.1 ∙ sym (transitions_walked _ _ ∙ rw e at i.2)

pub returns-then-bad_transition : goal.returns-then-bad_transition
returns-then-bad_transition c =
    let h = ap (λ (r : Head). r.transitions) c.head_at-h.ensures in
    sym
    (transitions_walked _ _
    ∙ any_at _ _ c.scan.c c.scan-test.true
    (any_at _ _ c.loop-t.t (omega (arith, c.loop-t-test.true, h))
    (sym (asked (goal.at.returns-then-bad_transition c).After-bad_transition) ∙ c.if-bad_transition.true)))

pub transition_at-requires : goal.transition_at-requires
transition_at-requires c = (c.requires.0.holds, within (goal.at.transition_at-requires c).In-loop-t)

pub bad_transition-requires : goal.bad_transition-requires
bad_transition-requires c =
    rw c.head_at-h.ensures (few (goal.at.bad_transition-requires c).After-head_at-h)

pub overflow_add-start-in-scan : goal.overflow_add-start-in-scan
overflow_add-start-in-scan c =
    let a = c.args in
    let h = ap (λ (r : Head). r.transitions) c.head_at-h.ensures in
    omega (
      arith,
      start_of_mono a.n a.body.now c.scan.c a.n.charts
          c.scan-test.true,
      summed a.n a.body.now c.requires.1,
    )

pub overflow_add-start : goal.overflow_add-start
overflow_add-start c = omega (arith, within (goal.at.overflow_add-start c).In-loop-t)
