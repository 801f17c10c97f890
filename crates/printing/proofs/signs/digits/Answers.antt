-- `digits` meets its contract: a number of more digits is all but its last, and its last.
use Prim.Native.Nat.{◌%◌}
use native.Mathlib.Omega.{arith}
use Rattle.notation.specs.Laws.Decimal.{decimal-one, decimal-more}
use Rattle.printing.specs.Laws.Prints.{writes_append}
use Rattle.printing.proofs.signs.digits.Goals as goal

pub returns : goal.returns
returns c =
    let n = c.args.n in
    rw (decimal-more n (omega arith))
    (writes_append c.digit-next.ensures (rw (decimal-one (n % 10) (omega arith)) at c.digit-2.ensures))
