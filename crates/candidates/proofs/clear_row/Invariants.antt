-- `clear_row` meets its contract. The loop clears the row, chart by chart. Assumes nothing.
use Rattle.tables.specs.Insertion.{AheadRow}
use Rattle.candidates.proofs.clear_row.Given as goal

abbrev pub invariant-loop-c : goal.invariant-loop-c
invariant-loop-c l = AheadRow l.charts (λ d. 0) l.c l.initial.masks l.masks
