-- `line::put_hex` meets its contract.
use native.Mathlib.Omega.{arith}
use Rattle.line.specs.Line.Laws.{length_digits}
use Rattle.line.proofs.put_hex.Goals as goal

pub put_digits-requires : goal.put_digits-requires
put_digits-requires c = (omega arith, omega arith, omega (arith, length_digits 16 16 c.args.x))
