-- `charts::bad_charts` meets its contract. The charts passed are good, and `sum` is where the transitions of the next
-- one start. Assumes nothing.
use mathlib.Core.Path.{◌≡◌}
use mathlib.Core.Bool.{false}
use Prim.Native.Nat.{◌*◌, ◌≤◌}
use Rattle.layout.specs.Body.{start_of}
use Rattle.meaning.specs.Sums.{any_up_to}
use Rattle.meaning.specs.Check.{chart?}
use Rattle.checks.proofs.charts.bad_charts.Given as goal

abbrev pub invariant-loop-c : goal.invariant-loop-c
invariant-loop-c l = (l.sum ≤ 255 * l.c) × (l.sum ≡ start_of l.n l.body l.c) × (any_up_to l.c (chart? l.n l.body) ≡ false)
