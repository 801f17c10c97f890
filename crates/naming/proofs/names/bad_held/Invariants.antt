-- `names::bad_held` meets its contract. The loop's invariant: no chart passed is bad. Assumes nothing.
use mathlib.Core.Path.{◌≡◌}
use mathlib.Core.Bool.{false}
use lib.ListN.{get_or}
use Rattle.meaning.specs.Sums.{any_up_to}
use Rattle.meaning.specs.Check.{differ}
use Rattle.naming.proofs.names.bad_held.Given as goal

abbrev pub invariant-loop-c : goal.invariant-loop-c
invariant-loop-c l = any_up_to l.c (λ c. differ (get_or l.held c 0) 1) ≡ false
