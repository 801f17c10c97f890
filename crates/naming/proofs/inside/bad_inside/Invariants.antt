-- `inside::bad_inside` meets its contract. The table has each node's lowest chart; the loop's invariant: each slave
-- passed passes. Assumes nothing.
use mathlib.Core.Path.{◌≡◌}
use mathlib.Core.Bool.{false}
use Rattle.meaning.specs.Sums.{any_up_to}
use Rattle.meaning.specs.File.{file_at}
use Rattle.naming.specs.Inside.{fails}
use Rattle.naming.proofs.inside.bad_inside.Given as goal

abbrev pub invariant-loop-i : goal.invariant-loop-i
invariant-loop-i l = any_up_to l.i (fails (file_at l.n l.body)) ≡ false
