use mathlib.Core.Path.{◌≡◌, sym}
use native.Mathlib.Numerals.{add-one}
use native.Mathlib.Omega.{arith}
use Rattle.meaning.specs.Meaning.{same}
use Rattle.meaning.specs.Sums.{any_up_to}
use Rattle.meaning.specs.Sums.Laws.{any_none}
use Rattle.meaning.specs.Check.{nonzero}
use Rattle.checks.proofs.zeros.nonzero.Goals as goal

pub loop-i-preserved : goal.loop-i-preserved
unfolding same any_up_to
loop-i-preserved c = rw (add-one, c.loop-i.invariant)

pub returns : goal.returns
unfolding nonzero
returns c = let e : c.loop-i.i ≡ c.args.k = omega arith in rw e at c.loop-i.invariant

pub loop-i-init : goal.loop-i-init
loop-i-init c = sym (any_none _)
