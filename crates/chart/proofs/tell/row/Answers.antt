-- A line has its end.
use Rattle.std.proofs.Common.{◌≡◌, List, ℕ, ◌≤◌, length, arith, length-append}
use Rattle.line.specs.Line.{fields, line_of}
use Rattle.chart.proofs.tell.row.Goals as goal

ended : (n : ℕ) (row : List ℕ) (r : ℕ) → r ≡ length (line_of n row) → 1 ≤ r
unfolding line_of fields
ended n row r e = rw (e, length-append) (omega arith)

pub overflow_sub-end : goal.overflow_sub-end
overflow_sub-end g c = ended _ _ _ c.line-n.ensures.0
