use mathlib.Core.Path.{ap}
use Prim.Native.Nat.{◌+◌, ◌≤◌}
use native.Mathlib.Omega.{arith}
use lib.ListN.{length}
use Rattle.layout.specs.Record.{slave_bytes}
use Rattle.layout.specs.Record.Laws.{length-slave}
use Rattle.layout.specs.Put.Laws.{put-length}
use Rattle.laying.specs.Sequence.{put_is, put-start, put_next, put-done, room_record}
use Rattle.clearing.proofs.slaves.Goals as goal
use Rattle.clearing.proofs.slaves.Goals.{In-loop-i}
use Rattle.clearing.proofs.slaves.Invariants.{written}

room : (c : In-loop-i) → c.loop-i.p + 4 ≤ length c.loop-i.out
room c =
    room_record (written c.args.n c.args.body.now) 4 (length-slave _) c.requires.1 c.loop-i-test.true
    c.loop-i.invariant

pub loop-i-preserved : goal.loop-i-preserved
loop-i-preserved c = put_next _ c.loop-i.invariant
    (put_is (ap slave_bytes c.slave_at.ensures) c.put_slave-p.ensures)

pub loop-i-init : goal.loop-i-init
loop-i-init c = put-start _

pub slave_at-requires : goal.slave_at-requires
slave_at-requires c = (c.requires.0.holds, c.loop-i-test.true)

pub put_slave-p-requires : goal.put_slave-p-requires
put_slave-p-requires c = room (goal.at.put_slave-p-requires c).In-loop-i

pub shape_of-out : goal.shape_of-out
shape_of-out c = put-length c.loop-i.invariant

pub returns : goal.returns
returns c = put-done _ (omega arith) c.loop-i.invariant
