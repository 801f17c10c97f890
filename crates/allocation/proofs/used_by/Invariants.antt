-- `used_by` meets its contract. The loop's invariant: the signals of the transitions passed are joined.
use mathlib.Core.Path.{◌≡◌}
use mathlib.Core.List.{List}
use Prim.Native.Nat.{ℕ}
use Rattle.signals.specs.Mask.{◌∪◌}
use Rattle.layout.specs.Body.{from, transition_at}
use Rattle.layout.specs.declared.body.Shape.{Shape}
use Rattle.meaning.specs.Meaning.{Set, guards, actions}
use Rattle.allocation.proofs.used_by.Given as goal

-- the first k transitions from `start` on
abbrev pub passed : Shape → List ℕ → ℕ → ℕ → Set
passed n b start k = guards (from (transition_at n b) start k) ∪ actions (from (transition_at n b) start k)

abbrev pub invariant-loop-k : goal.invariant-loop-k
invariant-loop-k l = l.all ≡ passed l.n l.body l.start l.k
