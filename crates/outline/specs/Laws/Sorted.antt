-- Lists that are sorted by keys below a limit: a sum over the members stays (`total_sorted`), so their number too
-- (`length_sorted`). What holds of each member, and stays as well, is passed on from meaning and reading.
use Rattle.std.specs.Prelude.{◌≡◌, Bool, ltb, eqb, length}
use Rattle.std.proofs.Math.Path.{refl, ap, ap₂}
use Rattle.std.proofs.Common.{sym, ◌∙◌, lt-ltb, le-ltb, eq-eqb, ne_eqb}
use Rattle.std.proofs.Math.Bool.{true, false, cond}
use mathlib.Core.List.{List, [], ◌∷◌, ◌++◌}
use Prim.Native.Nat.{ℕ, zero, suc, ◌+◌, ◌<◌}
use Rattle.std.proofs.Math.Decide.{dec_lt}
use native.Mathlib.Omega.{arith}
use Rattle.reading.specs.Meant.{with_key, sorted_by}
pub use Rattle.meaning.specs.Each.{Each, none, more}
pub use Rattle.meaning.specs.Each.Laws.{each_of, each_append}
pub use Rattle.reading.specs.Laws.Sorted.{each_with, each_sorted}

-- the sum of a number of each member
unfoldable pub total : {A : Type 0} → (A → ℕ) → List A → ℕ
total f [] = 0
total f (a ∷ l) = f a + total f l

pub total-append : {A : Type 0} (f : A → ℕ) (l m : List A) → total f (l ++ m) ≡ total f l + total f m
unfolding total
total-append f [] m = omega arith
total-append f (a ∷ l) m = omega (arith, total-append f l m)

total_plus : {A : Type 0} (f g h : A → ℕ) → ((a : A) → f a + g a ≡ h a) → (l : List A)
    → total f l + total g l ≡ total h l
unfolding total
total_plus f g h e [] = refl
total_plus f g h e (a ∷ l) = omega (arith, total_plus f g h e l, e a)

total-one : {A : Type 0} (l : List A) → total (λ a. 1) l ≡ length l
unfolding total
total-one [] = refl
total-one (a ∷ l) = omega (arith, total-one l)

-- keys below the next limit
next_limit : (k n x : ℕ) → cond (ltb k n) x 0 + cond (eqb k n) x 0 ≡ cond (ltb k (suc n)) x 0
next_limit k n x = go (dec_lt k n) (dec_lt n k)
  where
    values : (a b c : Bool) → ltb k n ≡ a → eqb k n ≡ b → ltb k (suc n) ≡ c → cond a x 0 + cond b x 0 ≡ cond c x 0
        → cond (ltb k n) x 0 + cond (eqb k n) x 0 ≡ cond (ltb k (suc n)) x 0
    values a b c p q r e =
        ap₂ ◌+◌ (ap (λ t. cond t x 0) p) (ap (λ t. cond t x 0) q) ∙ e ∙ sym (ap (λ t. cond t x 0) r)

    go : Dec (k < n) → Dec (n < k) → cond (ltb k n) x 0 + cond (eqb k n) x 0 ≡ cond (ltb k (suc n)) x 0
    go (yes l) m =
        values true false true (lt-ltb k n l) (ne_eqb k n (λ e. omega arith)) (lt-ltb k (suc n) (omega arith))
        (omega arith)
    go (no l) (yes m) =
        values false false false (le-ltb k n (omega arith)) (ne_eqb k n (λ e. omega arith))
        (le-ltb k (suc n) (omega arith)) refl
    go (no l) (no m) =
        values false true true (le-ltb k n (omega arith)) (eq-eqb k n (omega arith)) (lt-ltb k (suc n) (omega arith))
        (omega arith)

module _ {A : Type 0} (key : A → ℕ) where
  total-with : (f : A → ℕ) (k : ℕ) (l : List A)
      → total f (with_key key k l) ≡ total (λ a. cond (eqb (key a) k) (f a) 0) l
  unfolding with_key total
  total-with f k [] = refl
  total-with f k (a ∷ l) = go (eqb (key a) k) (total-with f k l)
    where
      go : (b : Bool) → total f (with_key key k l) ≡ total (λ a. cond (eqb (key a) k) (f a) 0) l
          → total f (cond b (a ∷ with_key key k l) (with_key key k l))
          ≡ cond b (f a) 0 + total (λ a. cond (eqb (key a) k) (f a) 0) l
      go true e = ap (f a +◌) e
      go false e = e ∙ omega arith

  total-below : (f : A → ℕ) (n : ℕ) (l : List A)
      → total f (sorted_by key n l) ≡ total (λ a. cond (ltb (key a) n) (f a) 0) l
  unfolding sorted_by total
  total-below f zero l = go l
    where
      go : (l : List A) → 0 ≡ total (λ a. cond (ltb (key a) 0) (f a) 0) l
      go [] = refl
      go (a ∷ l) = omega (arith, go l, ap (λ b. cond b (f a) 0) (le-ltb (key a) 0 (omega arith)))
  total-below f (suc n) l =
      total-append f (sorted_by key n l) (with_key key n l)
      ∙ ap₂ ◌+◌ (total-below f n l) (total-with f n l)
      ∙ total_plus (λ a. cond (ltb (key a) n) (f a) 0) (λ a. cond (eqb (key a) n) (f a) 0)
      (λ a. cond (ltb (key a) (suc n)) (f a) 0) (λ a. next_limit (key a) n (f a)) l

  pub total_sorted : (f : A → ℕ) (n : ℕ) (l : List A) → Each (λ a. key a < n) l
      → total f (sorted_by key n l) ≡ total f l
  unfolding total
  total_sorted f n l e = total-below f n l ∙ go l e
    where
      go : (l : List A) → Each (λ a. key a < n) l → total (λ a. cond (ltb (key a) n) (f a) 0) l ≡ total f l
      go [] e = refl
      go (a ∷ l) (more p e) = ap₂ ◌+◌ (ap (λ b. cond b (f a) 0) (lt-ltb (key a) n p)) (go l e)

  pub length_sorted : (n : ℕ) (l : List A) → Each (λ a. key a < n) l → length (sorted_by key n l) ≡ length l
  length_sorted n l e = sym (total-one (sorted_by key n l)) ∙ total_sorted (λ a. 1) n l e ∙ total-one l
