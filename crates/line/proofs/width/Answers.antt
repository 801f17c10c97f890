use native.Mathlib.Omega.{arith}
use Rattle.line.specs.Line.Laws.{width_one, width_suc, width-le}
use Rattle.line.proofs.width.Goals as goal

-- a u64 has at most 20 digits
pub overflow_add-n : goal.overflow_add-n
overflow_add-n c = omega (arith, width-le 19 c.args.x (omega arith))

pub loop-left-preserved : goal.loop-left-preserved
loop-left-preserved c = omega (arith, width_suc c.loop-left.left c.loop-left-test.true)

pub returns : goal.returns
returns c = omega (arith, width_one c.loop-left.left c.loop-left-test.false)

pub loop-left-init : goal.loop-left-init
loop-left-init c = omega arith

pub loop-left-smaller : goal.loop-left-smaller
loop-left-smaller c = omega arith
