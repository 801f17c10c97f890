-- Sorting by one key and picking by another: what is picked comes in the same order (`with_sorted`, `with-own`); a list
-- that is sorted stays as it is (`sorted_level`, `sorted_fixed`); members changed one by one (`map_sorted`).
use Rattle.std.specs.Prelude.{◌≡◌, Bool}
use Rattle.std.proofs.Math.Path.{refl, sym, ap, ap₂}
use Rattle.std.proofs.Common.{◌∙◌, eq-eqb, ne_eqb, eqb-true}
use Rattle.std.proofs.Math.Bool.{true, false, cond}
use mathlib.Core.List.{List, [], ◌∷◌, ◌++◌, map, map-append, append-nil}
use Prim.Native.Nat.{ℕ, zero, suc, ◌≤◌, ◌<◌}
use Rattle.std.proofs.Math.Decide.{dec_lt}
use native.Mathlib.Omega.{arith}
use Rattle.std.proofs.Math.Dec.{eqb}
use Rattle.meaning.specs.Each.{Each, none, more}
use Rattle.meaning.specs.Each.Laws.{each_of, each_append}
use Rattle.reading.specs.Meant.{with_key, sorted_by}
use Rattle.roster.specs.Laws.Sorted.{sorted_nil, insert_past}
use Rattle.walk.specs.Laws.Order.{key_append}

module _ {A : Type 0} (key : A → ℕ) where
  -- one member in front: picked, or not
  pub with_here : (k : ℕ) (a : A) (l : List A) → key a ≡ k → with_key key k (a ∷ l) ≡ a ∷ with_key key k l
  unfolding with_key
  with_here k a l e = rw (eq-eqb (key a) k e)

  pub with-not : (k : ℕ) (a : A) (l : List A) → (key a ≡ k → ⊥) → with_key key k (a ∷ l) ≡ with_key key k l
  unfolding with_key
  with-not k a l e = rw (ne_eqb (key a) k e)

  with_all : (k : ℕ) (l : List A) → Each (λ a. key a ≡ k) l → with_key key k l ≡ l
  unfolding with_key
  with_all k [] e = refl
  with_all k (a ∷ l) (more p e) = with_here k a l p ∙ ap (a ∷◌) (with_all k l e)

  with_none : (k : ℕ) (l : List A) → Each (λ a. key a ≡ k → ⊥) l → with_key key k l ≡ []
  unfolding with_key
  with_none k [] e = refl
  with_none k (a ∷ l) (more p e) = with-not k a l p ∙ with_none k l e

  -- the keys of what is picked, and of what is sorted
  pub keys_with : (k : ℕ) (l : List A) → Each (λ a. key a ≡ k) (with_key key k l)
  unfolding with_key
  keys_with k [] = none
  keys_with k (a ∷ l) = go (eqb (key a) k) refl (keys_with k l)
    where
      go : (b : Bool) → eqb (key a) k ≡ b → Each (λ a. key a ≡ k) (with_key key k l)
          → Each (λ a. key a ≡ k) (cond b (a ∷ with_key key k l) (with_key key k l))
      go true e i = more (eqb-true (key a) k e) i
      go false e i = i

  pub keys_sorted : (n : ℕ) (l : List A) → Each (λ a. key a < n) (sorted_by key n l)
  unfolding sorted_by
  keys_sorted zero l = none
  keys_sorted (suc n) l =
      each_append (each_of (λ a h. omega arith) (keys_sorted n l))
      (each_of (λ a h. omega arith) (keys_with n l))

  -- ── picked by the key that it is sorted by ──

  pub with-own : (n k : ℕ) (l : List A) → k < n → with_key key k (sorted_by key n l) ≡ with_key key k l
  unfolding sorted_by
  with-own zero k l h = absurd (omega arith)
  with-own (suc n) k l h =
      key_append key k (sorted_by key n l) (with_key key n l) ∙ go (dec_lt k n) (with-own n k l)
    where
      go : Dec (k < n) → (k < n → with_key key k (sorted_by key n l) ≡ with_key key k l)
          → with_key key k (sorted_by key n l) ++ with_key key k (with_key key n l) ≡ with_key key k l
      go (yes i) f =
          ap₂ ◌++◌ (f i) (with_none k (with_key key n l) (each_of (λ a e q. omega arith) (keys_with n l)))
          ∙ append-nil (with_key key k l)
      go (no i) f =
          let e : n ≡ k = omega arith in
          ap₂ ◌++◌ (with_none k (sorted_by key n l) (each_of (λ a e q. omega arith) (keys_sorted n l)))
          (with_all k (with_key key n l) (each_of (λ a q. q ∙ e) (keys_with n l)))
          ∙ ap (λ m. with_key key m l) e

  -- ── sorted ──

  -- no key is below one before it
  unfoldable pub NotFalling : List A → Type 0
  NotFalling [] = Unit {0}
  NotFalling (a ∷ l) = Each (λ b. key a ≤ key b) l × NotFalling l

  pub append-level : (n : ℕ) (l m : List A) → NotFalling l → NotFalling m → Each (λ a. key a ≤ n) l
      → Each (λ a. n ≤ key a) m → NotFalling (l ++ m)
  unfolding NotFalling
  append-level n [] m r s e f = s
  append-level n (a ∷ l) m r s (more p e) f = (
    each_append r.0 (each_of (λ b h. omega arith) f),
    append-level n l m r.1 s e f,
  )

  same-level : (n : ℕ) (l : List A) → Each (λ a. key a ≡ n) l → NotFalling l
  unfolding NotFalling
  same-level n [] e = tt
  same-level n (a ∷ l) (more p e) = (each_of (λ b h. omega arith) e, same-level n l e)

  pub sorted_level : (n : ℕ) (l : List A) → NotFalling (sorted_by key n l)
  unfolding sorted_by NotFalling
  sorted_level zero l = tt
  sorted_level (suc n) l =
      append-level n (sorted_by key n l) (with_key key n l) (sorted_level n l) (same-level n _ (keys_with n l))
      (each_of (λ a h. omega arith) (keys_sorted n l)) (each_of (λ a h. omega arith) (keys_with n l))

  sorted_none : (n : ℕ) (l : List A) → Each (λ a. n ≤ key a) l → sorted_by key n l ≡ []
  sorted_none n [] e = sorted_nil key n
  sorted_none n (a ∷ l) (more p e) = insert_past key n a l p ∙ sorted_none n l e

  insert_least : (n : ℕ) (a : A) (l : List A) → Each (λ b. key a ≤ key b) l → key a < n
      → sorted_by key n (a ∷ l) ≡ a ∷ sorted_by key n l
  unfolding sorted_by
  insert_least zero a l e h = absurd (omega arith)
  insert_least (suc n) a l e h = go (dec_lt (key a) n) (insert_least n a l e)
    where
      go : Dec (key a < n) → (key a < n → sorted_by key n (a ∷ l) ≡ a ∷ sorted_by key n l)
          → sorted_by key n (a ∷ l) ++ with_key key n (a ∷ l) ≡ a ∷ (sorted_by key n l ++ with_key key n l)
      go (yes i) f = ap₂ ◌++◌ (f i) (with-not n a l (λ q. omega arith))
      go (no i) f =
          let z = sorted_none n l (each_of (λ b q. omega arith) e) in
          ap₂ ◌++◌ (insert_past key n a l (omega arith) ∙ z) (with_here n a l (omega arith))
          ∙ ap (λ m. a ∷ (m ++ with_key key n l)) (sym z)

  pub sorted_fixed : (n : ℕ) (l : List A) → NotFalling l → Each (λ a. key a < n) l → sorted_by key n l ≡ l
  unfolding NotFalling
  sorted_fixed n [] r e = sorted_nil key n
  sorted_fixed n (a ∷ l) r (more p e) = insert_least n a l r.0 p ∙ ap (a ∷◌) (sorted_fixed n l r.1 e)

-- ── two keys ──

module _ {A : Type 0} (key other : A → ℕ) where
  with-with : (k m : ℕ) (l : List A) → with_key key k (with_key other m l) ≡ with_key other m (with_key key k l)
  unfolding with_key
  with-with k m [] = refl
  with-with k m (a ∷ l) = go (eqb (other a) m) refl (eqb (key a) k) refl (with-with k m l)
    where
      go : (b : Bool) → eqb (other a) m ≡ b → (c : Bool) → eqb (key a) k ≡ c
          → with_key key k (with_key other m l) ≡ with_key other m (with_key key k l)
          → with_key key k (cond b (a ∷ with_key other m l) (with_key other m l))
          ≡ with_key other m (cond c (a ∷ with_key key k l) (with_key key k l))
      go true p true q i = rw (p, q) (ap (a ∷◌) i)
      go true p false q i = rw q i
      go false p true q i = rw p i
      go false p false q i = i

  -- sorted by one key, picked by the other
  pub with_sorted : (k n : ℕ) (l : List A) → with_key key k (sorted_by other n l) ≡ sorted_by other n (with_key key k l)
  unfolding sorted_by with_key
  with_sorted k zero l = refl
  with_sorted k (suc n) l =
      key_append key k (sorted_by other n l) (with_key other n l) ∙ ap₂ ◌++◌ (with_sorted k n l) (with-with k n l)

-- ── members changed one by one ──

module _ {A B : Type 0} (f : A → B) (key : B → ℕ) where
  map_with : (k : ℕ) (l : List A) → with_key key k (map f l) ≡ map f (with_key (λ a. key (f a)) k l)
  unfolding with_key
  map_with k [] = refl
  map_with k (a ∷ l) = go (eqb (key (f a)) k) (map_with k l)
    where
      go : (b : Bool) → with_key key k (map f l) ≡ map f (with_key (λ a. key (f a)) k l)
          → cond b (f a ∷ with_key key k (map f l)) (with_key key k (map f l))
          ≡ map f (cond b (a ∷ with_key (λ a. key (f a)) k l) (with_key (λ a. key (f a)) k l))
      go true i = ap (f a ∷◌) i
      go false i = i

  pub map_sorted : (n : ℕ) (l : List A) → sorted_by key n (map f l) ≡ map f (sorted_by (λ a. key (f a)) n l)
  unfolding sorted_by
  map_sorted zero l = refl
  map_sorted (suc n) l =
      ap₂ ◌++◌ (map_sorted n l) (map_with n l)
      ∙ sym (map-append f (sorted_by (λ a. key (f a)) n l) (with_key (λ a. key (f a)) n l))
