-- `plan::feed_row` meets its contract: the masks below c are joined; an empty m feeds nothing.
use lib.ListN.{get_or}
use Rattle.signals.specs.Mask.{◌∪◌, ◌∩◌}
use Rattle.layout.specs.Row.{RowAt}
use Rattle.cells.specs.Table.{back_row, back_at}
use Rattle.plan.proofs.feed_row.Given as goal

abbrev pub invariant-loop-c : goal.invariant-loop-c
invariant-loop-c l = RowAt (back_row l.d) l.c (λ k. back_at l.initial.masks k l.d ∪ (l.m ∩ get_or l.offered k 0)) l.initial.masks l.masks
