-- `room::put_transition` meets its contract: without room nothing is asked.
use native.Mathlib.Omega.{arith}
use Rattle.layout.specs.Record.Laws.{length-transition}
use Rattle.laying.proofs.room.put_transition.Goals as goal

pub returns-then-out-lt-TRANSITION_BYTES : goal.returns-then-out-lt-TRANSITION_BYTES
returns-then-out-lt-TRANSITION_BYTES c room =
    absurd (omega (arith, length-transition c.args.r, c.if-out-lt-TRANSITION_BYTES.true))

pub returns-then-out-at : goal.returns-then-out-at
returns-then-out-at c room = absurd (omega (arith, length-transition c.args.r, c.if-out-at.true))
