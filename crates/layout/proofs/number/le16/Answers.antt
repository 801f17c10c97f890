-- `number::le16` meets its contract. Two bytes are the number that they stand for: `le-two`.
use Prim.Native.Nat.{◌+◌}
use native.Mathlib.Omega.{arith}
use Rattle.layout.specs.Le.Laws.{le-two}
use Rattle.layout.proofs.number.le16.Goals as goal

pub returns : goal.returns
returns c = le-two c.args.s.now c.args.at c.requires

pub overflow_cast-result : goal.overflow_cast-result
overflow_cast-result c = omega (arith, c.type_inv.s c.args.at)

pub overflow_cast-result-2 : goal.overflow_cast-result-2
overflow_cast-result-2 c = omega (arith, c.type_inv.s (c.args.at + 1))

pub overflow_mul-result : goal.overflow_mul-result
overflow_mul-result c = omega (arith, c.type_inv.s (c.args.at + 1))

pub overflow_add-result-2 : goal.overflow_add-result-2
overflow_add-result-2 c =
    omega (
      arith,
      c.type_inv.s (c.args.at + 1),
      c.type_inv.s c.args.at,
    )
