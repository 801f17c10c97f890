-- `is_again` meets its contract. None of the first v candidates is the transition. Assumes nothing.
use mathlib.Core.Path.{◌≡◌}
use mathlib.Core.Bool.{false}
use Rattle.meaning.specs.Sums.{any_up_to}
use Rattle.tables.specs.Insertion.{is_at}
use Rattle.candidates.proofs.is_again.Given as goal

abbrev pub invariant-loop-v : goal.invariant-loop-v
invariant-loop-v l = any_up_to l.v (λ u. is_at l.masks l.small l.c u l.t) ≡ false
