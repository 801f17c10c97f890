-- `deciding::bad_state` meets its contract. The loop's invariant: no state passed is bad.
use mathlib.Core.Path.{◌≡◌}
use mathlib.Core.Bool.{false}
use lib.ListN.{get_or}
use Rattle.meaning.specs.Sums.{any_up_to}
use Rattle.meaning.specs.Check.{not_below}
use Rattle.deciding.proofs.bad_state.Given as goal

abbrev pub invariant-loop-k : goal.invariant-loop-k
invariant-loop-k l = any_up_to l.k (λ j. not_below (get_or l.config j 0) (get_or l.states j 0)) ≡ false
