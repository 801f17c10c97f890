-- `ahead_row` meets its contract. The loop makes row k from row k + 1, chart by chart. Assumes nothing.
use Rattle.tables.specs.Insertion.{AheadRow, ahead_by}
use Rattle.candidates.proofs.ahead_row.Given as goal

abbrev pub invariant-loop-c : goal.invariant-loop-c
invariant-loop-c l = AheadRow l.k (ahead_by l.initial.masks l.k l.u) l.c l.initial.masks l.masks
