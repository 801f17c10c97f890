-- `is_stuck` meets its contract. None of the first c charts is stuck. Assumes nothing.
use mathlib.Core.Path.{◌≡◌}
use mathlib.Core.Bool.{false, not, ◌&&◌}
use lib.Dec.{ltb}
use Rattle.meaning.specs.Numbers.{most_charts}
use Rattle.meaning.specs.Sums.{any_up_to}
use Rattle.meaning.specs.Meaning.{same}
use Rattle.cells.specs.Table.{count_at, master_at}
use Rattle.cells.specs.Triggers.{told_at}
use Rattle.candidates.proofs.is_stuck.Given as goal

abbrev pub invariant-loop-c : goal.invariant-loop-c
invariant-loop-c l =
    any_up_to l.c (λ d. same (count_at l.small d) 0
    && (not (ltb (master_at l.small d) most_charts) && not (not (same (told_at l.stays d) 0)))) ≡ false
