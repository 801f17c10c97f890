-- `charts::bad_transitions` meets its contract. The charts passed are good, and so are the transitions passed of the
-- present chart, of which `left` counts how many left each state. Assumes nothing.
use mathlib.Core.Path.{◌≡◌}
use mathlib.Core.Bool.{false}
use Rattle.layout.specs.Body.{head_at, start_of}
use Rattle.meaning.specs.Sums.{any_up_to}
use Rattle.meaning.specs.Check.Laws.{bad_at}
use Rattle.checks.specs.Walk.{Counts}
use Rattle.checks.proofs.charts.bad_transitions.Given as goal

abbrev pub invariant-loop-t : goal.invariant-loop-t
invariant-loop-t l =
    (l.found ≡ false) × (any_up_to l.t (bad_at l.n l.body l.c) ≡ false) × Counts l.n l.body l.c l.left l.t

abbrev pub invariant-scan : goal.invariant-scan
invariant-scan l =
    (l.start ≡ start_of l.n l.body l.c) × (l.found ≡ false)
    × (any_up_to l.c (λ d. any_up_to (head_at l.n l.body d).transitions (bad_at l.n l.body d)) ≡ false)
