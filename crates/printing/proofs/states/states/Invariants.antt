-- `states` meets its contract. The loop's invariant: the states below q but the initial one are added.
use mathlib.Core.Path.{◌≡◌}
use mathlib.Core.List.{List, [], ◌∷◌}
use Prim.Native.Nat.{ℕ}
use lib.ListN.{length}
use mathlib.Core.Bool.{cond}
use Rattle.meaning.specs.Meaning.{same}
use Rattle.notation.specs.Grammar.{comma, letQ, name₁}
use Rattle.spelling.specs.Typed.{from_all}
use Rattle.printing.specs.Separated.{Adds}
use Rattle.printing.proofs.states.states.Given as goal

abbrev pub below : ℕ → ℕ → List ℕ
below initial q = from_all q (λ p. cond (same p initial) [] (p ∷ []))

abbrev pub invariant-loop-q : goal.invariant-loop-q
invariant-loop-q l = (length l.out ≡ length l.initial.out) × Adds comma (name₁ letQ) (below l.initial' l.q) l.first l.initial.out l.initial.at l.out l.at
