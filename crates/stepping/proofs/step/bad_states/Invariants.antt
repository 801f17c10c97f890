-- `step::bad_states` meets its contract. The loop's invariant: no state passed is bad. Assumes nothing.
use mathlib.Core.Path.{◌≡◌}
use mathlib.Core.Bool.{false}
use lib.ListN.{get_or}
use Rattle.layout.specs.Body.{head_at}
use Rattle.meaning.specs.Sums.{any_up_to}
use Rattle.meaning.specs.Check.{not_below}
use Rattle.stepping.proofs.step.bad_states.Given as goal

abbrev pub invariant-loop-c : goal.invariant-loop-c
invariant-loop-c l = any_up_to l.c (λ d. not_below (get_or l.config d 0) (head_at l.n l.body d).states) ≡ false
