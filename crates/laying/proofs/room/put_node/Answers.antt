-- `room::put_node` meets its contract: without room nothing is asked.
use native.Mathlib.Omega.{arith}
use Rattle.layout.specs.Record.Laws.{length_node}
use Rattle.laying.proofs.room.put_node.Goals as goal

pub returns-then-out-lt-NODE_BYTES : goal.returns-then-out-lt-NODE_BYTES
returns-then-out-lt-NODE_BYTES c room =
    absurd (omega (arith, length_node c.args.r, c.if-out-lt-NODE_BYTES.true))

pub returns-then-out-at : goal.returns-then-out-at
returns-then-out-at c room = absurd (omega (arith, length_node c.args.r, c.if-out-at.true))
