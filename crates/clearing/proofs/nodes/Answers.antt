use mathlib.Core.Path.{ap}
use Prim.Native.Nat.{◌+◌, ◌≤◌}
use native.Mathlib.Omega.{arith}
use lib.ListN.{length}
use Rattle.layout.specs.Record.{node_bytes}
use Rattle.layout.specs.Record.Laws.{length_node}
use Rattle.layout.specs.Put.Laws.{put-length}
use Rattle.laying.specs.Sequence.{put_is, put-start, put_next, put-done, room_record}
use Rattle.clearing.proofs.nodes.Goals as goal
use Rattle.clearing.proofs.nodes.Goals.{In-loop-j}
use Rattle.clearing.proofs.nodes.Invariants.{written}

room : (c : In-loop-j) → c.loop-j.p + 20 ≤ length c.loop-j.out
room c =
    room_record (written c.args.n c.args.body.now) 20 (length_node _) c.requires.1 c.loop-j-test.true
    c.loop-j.invariant

pub loop-j-preserved : goal.loop-j-preserved
loop-j-preserved c = put_next _ c.loop-j.invariant (put_is (ap node_bytes c.node_at.ensures) c.put_node-p.ensures)

pub loop-j-init : goal.loop-j-init
loop-j-init c = put-start _

pub node_at-requires : goal.node_at-requires
node_at-requires c = (c.requires.0.holds, c.loop-j-test.true)

pub put_node-p-requires : goal.put_node-p-requires
put_node-p-requires c = room (goal.at.put_node-p-requires c).In-loop-j

pub shape_of-out : goal.shape_of-out
shape_of-out c = put-length c.loop-j.invariant

pub returns : goal.returns
returns c = put-done _ (omega arith) c.loop-j.invariant
