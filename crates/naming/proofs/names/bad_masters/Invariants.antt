-- `names::bad_masters` meets its contract. The loop's invariant: no slave passed is bad. Assumes nothing.
use Prim.Native.Nat.{ℕ}
use mathlib.Core.Path.{◌≡◌}
use mathlib.Core.Bool.{Bool, false}
use mathlib.Core.List.{List}
use lib.ListN.{get_or}
use Rattle.layout.specs.declared.body.Shape.{Shape}
use Rattle.meaning.specs.Sums.{any_up_to}
use Rattle.meaning.specs.File.{file_at}
use Rattle.meaning.specs.Check.{not_below}
use Rattle.naming.proofs.names.bad_masters.Given as goal

abbrev pub bad : Shape → List ℕ → List ℕ → ℕ → Bool
bad n b t i = not_below ((file_at n b).node i) (get_or t ((file_at n b).master i) 0)

abbrev pub invariant-loop-i : goal.invariant-loop-i
invariant-loop-i l = any_up_to l.i (bad l.n l.body l.holder) ≡ false
