-- `names::bad_named` meets its contract. The loop's invariant: no node passed is bad. Assumes nothing.
use Prim.Native.Nat.{suc}
use mathlib.Core.Path.{◌≡◌}
use mathlib.Core.Bool.{false, cond}
use lib.ListN.{get_or}
use Rattle.meaning.specs.Sums.{any_up_to}
use Rattle.meaning.specs.Meaning.{same}
use Rattle.meaning.specs.Check.{differ}
use Rattle.naming.proofs.names.bad_named.Given as goal

abbrev pub invariant-loop-j : goal.invariant-loop-j
invariant-loop-j l = any_up_to l.j (λ j. differ (get_or l.named j 0) (cond (same (suc j) l.n.nodes) 0 1)) ≡ false
