-- `slaves::bad_slaves` meets its contract. The loop's invariant: no slave passed is bad. Assumes nothing.
use mathlib.Core.Path.{◌≡◌}
use mathlib.Core.Bool.{false}
use Rattle.meaning.specs.Sums.{any_up_to}
use Rattle.meaning.specs.File.{file_at}
use Rattle.meaning.specs.Check.{slave?}
use Rattle.naming.proofs.slaves.bad_slaves.Given as goal

abbrev pub invariant-loop-i : goal.invariant-loop-i
invariant-loop-i l = any_up_to l.i (slave? (file_at l.n l.body)) ≡ false
