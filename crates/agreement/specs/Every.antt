-- A statement of every transition of a list: of two lists, of one in it, of those by number, of those changed one by
-- one.
use Rattle.std.specs.Prelude.{◌≡◌, length, get_or}
use Rattle.std.proofs.Common.{sym, ⊎_elim, add-zero}
use Rattle.std.proofs.Math.Path.{subst}
use mathlib.Core.List.Memᴰ
use mathlib.Core.List.{List, [], ◌∷◌, ◌++◌, map, Memᴰ}
use Prim.Native.Nat.{ℕ, zero, suc, ◌+◌, ◌<◌}
use native.Mathlib.Omega.{arith}
use Rattle.layout.specs.Body.{from}
use Rattle.layout.specs.declared.record.Transition.{Transition}

-- P holds of each
abbrev pub Every : (Transition → Type 0) → List Transition → Type 0
Every P [] = Unit {0}
Every P (t ∷ ts) = P t × Every P ts

module _ (P : Transition → Type 0) where
  pub every_append : (a b : List Transition) → Every P a → Every P b → Every P (a ++ b)
  every_append [] b h k = k
  every_append (t ∷ a) b h k = (h.0, every_append a b h.1 k)

  pub every-at : (ts : List Transition) (k : ℕ) (d : Transition) → k < length ts → Every P ts → P (get_or ts k d)
  every-at [] k d l h = absurd (omega arith)
  every-at (t ∷ ts) zero d l h = h.0
  every-at (t ∷ ts) (suc k) d l h = every-at ts k d (omega arith) h.1

  pub every_in : (ts : List Transition) (u : Transition) → Every P ts → Memᴰ u ts → P u
  every_in [] u h m = absurd (Memᴰ.not-nil m)
  every_in (t ∷ ts) u h m = ⊎_elim (λ e. subst P (sym e) h.0) (λ k. every_in ts u h.1 k) (Memᴰ.cases_cons m)

  pub every-from : (f : ℕ → Transition) (k n : ℕ) → ((i : ℕ) → i < n → P (f (k + i))) → Every P (from f k n)
  unfolding from
  every-from f k zero h = tt
  every-from f k (suc n) h = (
    subst (λ z. P (f z)) (add-zero k) (h 0 (omega arith)),
    every-from f (suc k) n
        (λ i l. subst (λ z. P (f z)) (let e : k + suc i ≡ suc k + i = omega arith in e) (h (suc i) (omega arith))),
  )

  pub every_map : (Q : Transition → Type 0) (g : Transition → Transition) → ((t : Transition) → P t → Q (g t))
      → (ts : List Transition) → Every P ts
      → Every Q (map g ts)
  every_map Q g h [] k = tt
  every_map Q g h (t ∷ ts) k = (h t k.0, every_map Q g h ts k.1)

  pub every_imp : (Q : Transition → Type 0) → ((t : Transition) → P t → Q t) → (ts : List Transition) → Every P ts
      → Every Q ts
  every_imp Q h [] k = tt
  every_imp Q h (t ∷ ts) k = (h t k.0, every_imp Q h ts k.1)
