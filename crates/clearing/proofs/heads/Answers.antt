use mathlib.Core.Path.{sym, ap, ◌∙◌}
use Prim.Native.Nat.{◌+◌, ◌≤◌}
use native.Mathlib.Omega.{arith}
use lib.ListN.{length}
use Rattle.layout.specs.Record.{head_bytes}
use Rattle.layout.specs.Record.Laws.{length-head}
use Rattle.layout.specs.Body.{transition_at}
use Rattle.layout.specs.Body.Laws.{start_of-none}
use Rattle.layout.specs.Put.Laws.{put-length}
use Rattle.checks.specs.Known.Laws.{in_all, start-next}
use Rattle.laying.specs.Sequence.{put_is, put-start, put_next, put-done, room_record}
use Rattle.clearing.specs.Left.{left_of}
use Rattle.clearing.proofs.LeftLaws.{left_most, head-cleared}
use Rattle.clearing.proofs.heads.Goals as goal
use Rattle.clearing.proofs.heads.Goals.{After-head_at-h, After-of_list-l, In-loop-c}
use Rattle.clearing.proofs.heads.Invariants.{written}

-- the transitions of a chart are there
there : (c : After-head_at-h)
    → c.loop-c.start + c.head_at-h.result.transitions
    ≤ c.args.n.transitions
there c =
    in_all _ _ _ _ c.head_at-h.ensures c.loop-c.invariant.0 c.requires.1
    c.loop-c-test.true

-- of them at most all are left
few : (c : After-of_list-l)
    → c.of_list-l.result.count ≤ c.head_at-h.result.transitions
unfolding left_of
few c =
    let m = left_most c.head_at-h.result.feedback (transition_at c.args.n c.args.body.now)
    c.loop-c.start c.head_at-h.result.transitions in
    let e = c.of_list-l.ensures in
    rw e m

room : (c : In-loop-c) → c.loop-c.p + 24 ≤ length c.loop-c.out
room c =
    room_record (written c.args.n c.args.body.now) 24 (length-head _) c.requires.2 c.loop-c-test.true
    c.loop-c.invariant.1

pub loop-c-preserved : goal.loop-c-preserved
loop-c-preserved c =
    let e = head-cleared c.args.n c.args.body.now c.loop-c.c c.loop-c.start _ c.head_at-h.ensures
    c.loop-c.invariant.0 _ c.of_list-l.ensures in (
      start-next _ _ _ _ c.head_at-h.ensures c.loop-c.invariant.0,
      put_next _ c.loop-c.invariant.1 (put_is (ap head_bytes (c.head.ensures ∙ e)) c.put_head-p.ensures),
    )

pub loop-c-init : goal.loop-c-init
loop-c-init c = (sym (start_of-none _ _), put-start _)

pub head_at-h-requires : goal.head_at-h-requires
head_at-h-requires c = (c.requires.0.holds, c.loop-c-test.true)

pub of_list-l-requires : goal.of_list-l-requires
of_list-l-requires c = (c.requires.0.holds, there (goal.at.of_list-l-requires c).After-head_at-h)

pub head-requires : goal.head-requires
head-requires c = let f = few (goal.at.head-requires c).After-of_list-l in omega arith

pub put_head-p-requires : goal.put_head-p-requires
put_head-p-requires c = room (goal.at.put_head-p-requires c).In-loop-c

pub overflow_add-start : goal.overflow_add-start
overflow_add-start c =
    let t = there (goal.at.overflow_add-start c).After-head_at-h in
    let m = c.requires.0.transitions in
    omega arith

pub shape_of-out : goal.shape_of-out
shape_of-out c = put-length c.loop-c.invariant.1

pub returns : goal.returns
returns c = put-done _ (omega arith) c.loop-c.invariant.1
