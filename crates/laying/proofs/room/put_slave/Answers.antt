-- `room::put_slave` meets its contract: without room nothing is asked.
use native.Mathlib.Omega.{arith}
use Rattle.layout.specs.Record.Laws.{length-slave}
use Rattle.laying.proofs.room.put_slave.Goals as goal

pub returns-then-out-lt-SLAVE_BYTES : goal.returns-then-out-lt-SLAVE_BYTES
returns-then-out-lt-SLAVE_BYTES c room =
    absurd (omega (arith, length-slave c.args.r, c.if-out-lt-SLAVE_BYTES.true))

pub returns-then-out-at : goal.returns-then-out-at
returns-then-out-at c room = absurd (omega (arith, length-slave c.args.r, c.if-out-at.true))
