-- The guards and the actions of a chart's transitions, as a loop over records takes them: none passed, one more passed.
use Rattle.std.specs.Prelude.{◌≡◌}
use Rattle.std.proofs.Math.Path.{refl, ap}
use Rattle.std.proofs.Common.{sym, ◌∙◌, add-one, arith}
use mathlib.Core.List.{List, [], ◌∷◌}
use Prim.Native.Nat.{ℕ, zero, suc, ◌+◌}
use Rattle.signals.specs.Mask.{◌∪◌}
use Rattle.signals.specs.Decide.{sets, A, B, C, ∅ₑ, ◌∪ₑ◌, ◌≐◌}
use Rattle.layout.specs.Body.{from}
use Rattle.layout.specs.declared.record.Transition.{Transition}
use Rattle.meaning.specs.Meaning.{Set, ∅, guards, actions}

-- a set of each transition, joined
unfoldable join_all : (Transition → Set) → List Transition → Set
join_all g [] = ∅
join_all g (t ∷ ts) = g t ∪ join_all g ts

module _ (g : Transition → Set) (f : ℕ → Transition) where
  joined-more : (s k : ℕ) → join_all g (from f s (suc k)) ≡ join_all g (from f s k) ∪ g (f (s + k))
  unfolding join_all from
  joined-more s zero = sets (g (f s) ∷ []) [] (A ∪ₑ ∅ₑ ≐ ∅ₑ ∪ₑ A) tt ∙ ap (λ i. ∅ ∪ g (f i)) (omega arith)
  joined-more s (suc k) =
      ap (λ z. g (f s) ∪ z) (joined-more (suc s) k ∙ ap (λ i. join_all g (from f (suc s) k) ∪ g (f i)) (omega arith))
      ∙ sets (g (f s) ∷ join_all g (from f (suc s) k) ∷ g (f (s + suc k)) ∷ []) [] (A ∪ₑ (B ∪ₑ C) ≐ A ∪ₑ B ∪ₑ C) tt

guards-joined : (ts : List Transition) → guards ts ≡ join_all (λ t. t.needed ∪ t.barred) ts
unfolding guards join_all
guards-joined [] = refl
guards-joined (t ∷ ts) = ap (λ z. t.needed ∪ t.barred ∪ z) (guards-joined ts)

actions-joined : (ts : List Transition) → actions ts ≡ join_all (λ t. t.action) ts
unfolding actions join_all
actions-joined [] = refl
actions-joined (t ∷ ts) = ap (λ z. t.action ∪ z) (actions-joined ts)

module _ (f : ℕ → Transition) (s : ℕ) where
  pub guards_none : guards (from f s 0) ≡ ∅
  unfolding guards from
  guards_none = refl

  pub guards_more : (k : ℕ) → guards (from f s (k + 1))
      ≡ guards (from f s k) ∪ ((f (s + k)).needed ∪ (f (s + k)).barred)
  guards_more k =
      ap (λ i. guards (from f s i)) (add-one k)
      ∙ guards-joined (from f s (suc k))
      ∙ joined-more (λ t. t.needed ∪ t.barred) f s k
      ∙ ap (λ z. z ∪ ((f (s + k)).needed ∪ (f (s + k)).barred)) (sym (guards-joined (from f s k)))

  pub actions-none : actions (from f s 0) ≡ ∅
  unfolding actions from
  actions-none = refl

  pub actions-more : (k : ℕ) → actions (from f s (k + 1)) ≡ actions (from f s k) ∪ (f (s + k)).action
  actions-more k =
      ap (λ i. actions (from f s i)) (add-one k)
      ∙ actions-joined (from f s (suc k))
      ∙ joined-more (λ t. t.action) f s k
      ∙ ap (λ z. z ∪ (f (s + k)).action) (sym (actions-joined (from f s k)))
