-- `search::put_column` meets its contract: the entries below c of the column are put, and the others stay.
use lib.ListN.{get_or}
use Rattle.layout.specs.Row.{RowAt}
use Rattle.cells.specs.Trail.{column_in}
use Rattle.search.proofs.put_column.Given as goal

abbrev pub invariant-loop-c : goal.invariant-loop-c
invariant-loop-c l = RowAt l.at l.c (λ d. get_or (column_in l.moves l.charts l.column l.filler) d 0) l.initial.best l.best
