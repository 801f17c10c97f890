-- `levels::second_of` meets its contract.
use mathlib.Core.Path.{refl}
use native.Mathlib.Omega.{arith}
use Rattle.scan.specs.Levels.{second_of}
use Rattle.levels.proofs.second_of.Goals as goal

pub returns : goal.returns
returns c = unfold second_of in refl

pub overflow_mul-result : goal.overflow_mul-result
overflow_mul-result c = omega arith

pub overflow_add-result : goal.overflow_add-result
overflow_add-result c = omega arith
