-- `zeros::nonzero` meets its contract. What is found is whether one of the bytes passed is not zero. Assumes nothing.
use mathlib.Core.Path.{◌≡◌}
use Prim.Native.Nat.{◌+◌}
use lib.ListN.{get_or}
use Rattle.meaning.specs.Sums.{any_up_to}
use Rattle.meaning.specs.Check.{differ}
use Rattle.checks.proofs.zeros.nonzero.Given as goal

abbrev pub invariant-loop-i : goal.invariant-loop-i
invariant-loop-i l = l.found ≡ any_up_to l.i (λ j. differ (get_or l.s (l.at + j) 0) 0)
