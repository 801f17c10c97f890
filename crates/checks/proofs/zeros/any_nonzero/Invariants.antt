-- `zeros::any_nonzero` meets its contract. The records passed are zero where they should be; the next one stands at
-- `place`. Assumes nothing.
use mathlib.Core.Path.{◌≡◌}
use mathlib.Core.Bool.{false}
use Prim.Native.Nat.{◌+◌, ◌*◌}
use Rattle.meaning.specs.Sums.{any_up_to}
use Rattle.meaning.specs.Check.{nonzero}
use Rattle.checks.proofs.zeros.any_nonzero.Given as goal

abbrev pub invariant-loop-i : goal.invariant-loop-i
invariant-loop-i l = (l.place ≡ l.at + l.size * l.i) × (any_up_to l.i (λ j. nonzero l.s (l.at + l.size * j + l.from) l.k) ≡ false)
