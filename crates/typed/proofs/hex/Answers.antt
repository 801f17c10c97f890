-- `typed::hex` meets its contract.
use native.Mathlib.Omega.{arith}
use lib.ListN.{length}
use Rattle.typed.specs.Typed.{hex_of}
use Rattle.typed.specs.Typed.Laws.{between_is, between-below, between_above}
use Rattle.typed.proofs.hex.Goals as goal

pub returns-then-n-eq0 : goal.returns-then-n-eq0
unfolding hex_of
returns-then-n-eq0 c = rw (between-below 1 16 (length c.args.word.now) (omega arith))

pub returns-then-n-gt16 : goal.returns-then-n-gt16
unfolding hex_of
returns-then-n-gt16 c = rw (between_above 1 16 (length c.args.word.now) (omega arith) (omega arith))

pub returns : goal.returns
unfolding hex_of
returns c =
    rw (between_is 1 16 (length c.args.word.now) (omega arith) (omega arith))
    c.digits.ensures
