use mathlib.Core.Path.{ap, ap₂, ◌∙◌}
use Prim.Native.Nat.{◌+◌, ◌≤◌}
use native.Mathlib.Omega.{arith}
use lib.ListN.{length}
use Rattle.layout.specs.Record.{transition_bytes}
use Rattle.layout.specs.Record.Laws.{length-transition}
use Rattle.meaning.specs.File.{file_at}
use Rattle.meaning.specs.Rewriting.{calls_by}
use Rattle.layout.specs.Put.Laws.{put-length}
use Rattle.laying.specs.Sequence.{put_is, put-start, put_next, put-done, room_record}
use Rattle.assembly.specs.Records.{called_with}
use Rattle.assembly.proofs.own.Goals as goal
use Rattle.assembly.proofs.own.Goals.{In-loop-k}
use Rattle.assembly.proofs.own.Invariants.{written}

room : (c : In-loop-k) → c.loop-k.p + 28 ≤ length c.loop-k.out
room c =
    let a = c.args in
    room_record (written a.n a.body.now a.inner a.c a.start) 28 (length-transition _) c.requires.3
    c.loop-k-test.true c.loop-k.invariant

pub loop-k-preserved : goal.loop-k-preserved
loop-k-preserved c =
    let a = c.args in
    let e = c.called-new.ensures
    ∙ ap₂ (called_with a.inner) (c.calls_by.ensures
    ∙ ap (calls_by (file_at a.n a.body.now) a.c) c.transition_at-t.ensures) c.transition_at-t.ensures in put_next _ c.loop-k.invariant (put_is (ap transition_bytes e) c.put_transition-p.ensures)

pub loop-k-init : goal.loop-k-init
loop-k-init c = put-start _

pub overflow_add-start : goal.overflow_add-start
overflow_add-start c =
    let s = c.requires in let h = s.0.sized.transitions in let l = s.2 in
    omega arith

pub transition_at-t-requires : goal.transition_at-t-requires
transition_at-t-requires c = let s = c.requires in (s.0.sized.holds, (let l = s.2 in omega arith))

pub calls_by-requires : goal.calls_by-requires
calls_by-requires c = (c.requires.0, c.requires.1)

pub put_transition-p-requires : goal.put_transition-p-requires
put_transition-p-requires c = room (goal.at.put_transition-p-requires c).In-loop-k

pub shape_of-out : goal.shape_of-out
shape_of-out c = put-length c.loop-k.invariant

pub returns : goal.returns
returns c = put-done _ (omega arith) c.loop-k.invariant
