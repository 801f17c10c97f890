use mathlib.Core.Path.{ap}
use native.Mathlib.Omega.{arith}
use Rattle.layout.specs.Put.Laws.{put-length}
use Rattle.laying.specs.Sequence.{put_is, put-start, put_next, put-done, room_turn}
use Rattle.clearing.specs.Left.{kept_bytes}
use Rattle.clearing.proofs.chart.Goals as goal
use Rattle.clearing.proofs.chart.Invariants.{written}

pub keep-p-requires : goal.keep-p-requires
keep-p-requires c =
    rw c.transition_at.ensures
    (room_turn (written c.args.n c.args.body.now c.args.start c.args.fed) c.requires.2
    c.loop-k-test.true
    c.loop-k.invariant)

pub loop-k-preserved : goal.loop-k-preserved
loop-k-preserved c = put_next _ c.loop-k.invariant
    (put_is (ap (kept_bytes c.args.fed) c.transition_at.ensures) c.keep-p.ensures)

pub loop-k-init : goal.loop-k-init
loop-k-init c = put-start _

pub transition_at-requires : goal.transition_at-requires
transition_at-requires c = (c.requires.0, (let l = c.requires.1 in omega arith))

pub shape_of-out : goal.shape_of-out
shape_of-out c = put-length c.loop-k.invariant

pub returns : goal.returns
returns c = put-done _ (omega arith) c.loop-k.invariant
