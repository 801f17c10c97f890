-- `room::put_head` meets its contract: without room nothing is asked.
use native.Mathlib.Omega.{arith}
use Rattle.layout.specs.Record.Laws.{length-head}
use Rattle.laying.proofs.room.put_head.Goals as goal

pub returns-then-out-lt-HEAD_BYTES : goal.returns-then-out-lt-HEAD_BYTES
returns-then-out-lt-HEAD_BYTES c room =
    absurd (omega (arith, length-head c.args.r, c.if-out-lt-HEAD_BYTES.true))

pub returns-then-out-at : goal.returns-then-out-at
returns-then-out-at c room = absurd (omega (arith, length-head c.args.r, c.if-out-at.true))
