-- `line::put_decimal` meets its contract.
use native.Mathlib.Omega.{arith}
use Rattle.line.specs.Line.{decimal}
use Rattle.line.specs.Line.Laws.{length-decimal}
use Rattle.line.proofs.put_decimal.Goals as goal

pub put_digits-requires : goal.put_digits-requires
put_digits-requires c =
    (omega arith, omega arith, omega (arith, length-decimal c.args.x, c.width.ensures))

pub returns : goal.returns
unfolding decimal
returns c = rw c.width.ensures at c.put_digits.ensures
