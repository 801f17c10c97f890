-- `zeros::bad_zeros` meets its contract: the four kinds of records one after another. Assumes nothing.
use mathlib.Core.Path.{refl}
use native.Mathlib.Nat.{zero-add}
use Rattle.meaning.specs.Check.{zeros?}
use Rattle.checks.proofs.zeros.bad_zeros.Goals as goal

pub returns : goal.returns
unfolding zeros?
returns c = rw (
  c.any_nonzero.ensures,
  c.any_nonzero-2.ensures,
  c.any_nonzero-3.ensures,
  c.any_nonzero-4.ensures,
) (simp zero-add refl)
