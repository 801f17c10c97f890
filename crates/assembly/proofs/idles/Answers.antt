use Prim.Native.Nat.{◌+◌, ◌≤◌}
use native.Mathlib.Omega.{arith}
use lib.ListN.{length}
use Rattle.layout.specs.Record.Laws.{length-transition}
use Rattle.layout.specs.Put.Laws.{put-length}
use Rattle.laying.specs.Sequence.{put-start, put_next, put-done, room_record}
use Rattle.assembly.specs.Records.{idle_with}
use Rattle.assembly.proofs.idles.Goals as goal
use Rattle.assembly.proofs.idles.Goals.{In-loop-s}
use Rattle.assembly.proofs.idles.Invariants.{written}

room : (c : In-loop-s) → c.loop-s.p + 28 ≤ length c.loop-s.out
room c =
    room_record (written c.args.inner) 28 (length-transition _) c.requires c.loop-s-test.true
    c.loop-s.invariant

pub loop-s-preserved : goal.loop-s-preserved
unfolding idle_with
loop-s-preserved c = put_next (written _) c.loop-s.invariant c.put_transition-p.ensures

pub loop-s-init : goal.loop-s-init
loop-s-init c = put-start _

pub put_transition-p-requires : goal.put_transition-p-requires
put_transition-p-requires c = room (goal.at.put_transition-p-requires c).In-loop-s

pub shape_of-out : goal.shape_of-out
shape_of-out c = put-length c.loop-s.invariant

pub returns : goal.returns
returns c = put-done _ (omega arith) c.loop-s.invariant
