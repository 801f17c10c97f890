use mathlib.Core.Path.{◌≡◌, sym, ap, ◌∙◌}
use Prim.Native.Nat.{◌+◌, ◌≤◌}
use native.Mathlib.Omega.{arith}
use Rattle.layout.specs.Body.{transition_at}
use Rattle.layout.specs.Body.Laws.{start_of-none}
use Rattle.layout.specs.Put.Laws.{put-length}
use Rattle.meaning.specs.Rewriting.{in_turn, transitions_bytes}
use Rattle.checks.specs.Known.Laws.{in_all, start-next}
use Rattle.laying.specs.Sequence.{put_is, put-start, put_next, put-done, room_turn}
use Rattle.clearing.specs.Left.{kept_bytes}
use Rattle.clearing.proofs.LeftLaws.{kept_turn, list_cleared}
use Rattle.clearing.proofs.transitions.Goals as goal
use Rattle.clearing.proofs.transitions.Goals.{After-head_at-h}
use Rattle.clearing.proofs.transitions.Invariants.{written}

-- the transitions of a chart are there
there : (c : After-head_at-h)
    → c.loop-c.start + c.head_at-h.result.transitions
    ≤ c.args.n.transitions
there c =
    in_all _ _ _ _ c.head_at-h.ensures c.loop-c.invariant.0 c.requires.1
    c.loop-c-test.true

-- what is left of them, in turn
turned : (c : After-head_at-h)
    → written c.args.n
    c.args.body.now
    c.loop-c.c
    ≡ in_turn c.head_at-h.result.transitions
    (λ k. kept_bytes c.head_at-h.result.feedback
    (transition_at c.args.n
    c.args.body.now
    (c.loop-c.start + k)))
turned c =
    ap transitions_bytes
    (list_cleared c.args.n c.args.body.now c.loop-c.c c.loop-c.start _ c.head_at-h.ensures
    c.loop-c.invariant.0)
    ∙ kept_turn c.head_at-h.result.feedback (transition_at c.args.n c.args.body.now) c.loop-c.start
    c.head_at-h.result.transitions

pub chart-p-requires : goal.chart-p-requires
chart-p-requires c = (
  c.requires.0.holds,
  there (goal.at.chart-p-requires c).After-head_at-h,
  rw (← turned (goal.at.chart-p-requires c).After-head_at-h)
      (room_turn (written c.args.n c.args.body.now) c.requires.2 c.loop-c-test.true
      c.loop-c.invariant.1),
)

pub loop-c-preserved : goal.loop-c-preserved
loop-c-preserved c = (
  start-next _ _ _ _ c.head_at-h.ensures c.loop-c.invariant.0,
  put_next _ c.loop-c.invariant.1 (put_is (sym (turned (goal.at.loop-c-preserved c).After-head_at-h)) c.chart-p.ensures),
)

pub loop-c-init : goal.loop-c-init
loop-c-init c = (sym (start_of-none _ _), put-start _)

pub head_at-h-requires : goal.head_at-h-requires
head_at-h-requires c = (c.requires.0.holds, c.loop-c-test.true)

pub overflow_add-start : goal.overflow_add-start
overflow_add-start c =
    let t = there (goal.at.overflow_add-start c).After-head_at-h in
    let m = c.requires.0.transitions in
    omega arith

pub shape_of-out : goal.shape_of-out
shape_of-out c = put-length c.loop-c.invariant.1

pub returns : goal.returns
returns c = put-done _ (omega arith) c.loop-c.invariant.1
