-- `settling::put_row` meets its contract: the first c masks stand in the row.
use lib.ListN.{get_or}
use Rattle.layout.specs.Row.{RowAt}
use Rattle.cells.specs.Trail.{low_cell}
use Rattle.settling.proofs.put_row.Given as goal

abbrev pub invariant-loop-c : goal.invariant-loop-c
invariant-loop-c l = RowAt (low_cell l.k l.from) l.c (λ d. get_or l.row d 0) l.initial.trail l.trail
