-- What is printed ends at the next byte or before it.
use Rattle.std.proofs.Common.{◌≤◌}
use Rattle.display.proofs.lay_out.Given as goal

abbrev pub invariant-loop-at : goal.invariant-loop-at
invariant-loop-at g l = l.from ≤ l.at
