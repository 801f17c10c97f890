-- Laws of lists sorted by a key: they hold the same members (`sorted_perm`), so what does not depend on the order is
-- the same (`length_perm`, `any_perm`, `gathered_perm`); and keys that are all numbers from 0 up, each once, come in
-- their order (`sorted_order`), and are at most as many as the limit (`few_names`).
use Rattle.std.specs.Prelude.{◌≡◌, Bool, ◌⊎◌, ltb}
use Rattle.std.proofs.Math.Path.{refl, ap, ap₂, subst}
use Rattle.std.proofs.Common.{sym, ◌∙◌, true≢false}
use Rattle.std.proofs.Math.Bool.{true, false, ◌||◌, cond}
use Rattle.std.proofs.lemmas.Bool.{false≢true}
use mathlib.Core.List.Permᴰ
use mathlib.Core.List.{List, [], ◌∷◌, ◌++◌, map, append-nil, Permᴰ}
use Rattle.std.proofs.Math.Logic.{inl, inr, ⊎_elim}
use Prim.Native.Nat.{ℕ, zero, suc, ◌+◌, ◌≤◌, ◌<◌}
use Rattle.std.proofs.Math.Decide.{dec_lt}
use native.Mathlib.Omega.{arith}
use borrow.Author.Tests.{ltb-true, eqb-true, eq-eqb, not-false}
use Rattle.std.proofs.Math.Dec.{eqb}
use Rattle.std.proofs.Math.ListN.{length, length-append}
use Rattle.meaning.specs.Each.{Each, none, more}
use Rattle.meaning.specs.Check.{not_below}
use Rattle.meaning.specs.Laws.Bools.{or_swap}
use Rattle.meaning.specs.Sums.Laws.{or_left, or_right}
use Rattle.reading.specs.Names.{any, has, twice?, lacks_before, left_out?, not_all?}
use Rattle.reading.specs.Meant.{with_key, sorted_by, gathered}
use Rattle.lists.specs.Laws.States.{any_at, length_snoc}

-- ── tests ──

eqb_no : (m n : ℕ) → (m ≡ n → ⊥) → eqb m n ≡ false
eqb_no m n h = go (eqb m n) refl
  where
    go : (b : Bool) → eqb m n ≡ b → b ≡ false
    go true e = absurd (h (eqb-true m n e))
    go false e = refl

-- ── the same members ──

module _ {A : Type 0} (key : A → ℕ) where
  pub sorted_nil : (n : ℕ) → sorted_by key n [] ≡ []
  unfolding sorted_by with_key
  sorted_nil zero = refl
  sorted_nil (suc n) = append-nil (sorted_by key n []) ∙ sorted_nil n

  -- one more member: past the keys, and among them
  pub insert_past : (n : ℕ) (a : A) (l : List A) → n ≤ key a → sorted_by key n (a ∷ l) ≡ sorted_by key n l
  unfolding sorted_by with_key
  insert_past zero a l h = refl
  insert_past (suc n) a l h =
      ap₂ ◌++◌ (insert_past n a l (omega arith))
      (ap (λ b. cond b (a ∷ with_key key n l) (with_key key n l)) (eqb_no (key a) n (λ e. omega arith)))

  insert_perm : (n : ℕ) (a : A) (l : List A) → key a < n → Permᴰ (sorted_by key n (a ∷ l)) (a ∷ sorted_by key n l)
  unfolding sorted_by with_key
  insert_perm zero a l h = absurd (omega arith)
  insert_perm (suc n) a l h = go (dec_lt (key a) n) (insert_perm n a l)
    where
      go : Dec (key a < n) → (key a < n → Permᴰ (sorted_by key n (a ∷ l)) (a ∷ sorted_by key n l))
          → Permᴰ (sorted_by key (suc n) (a ∷ l)) (a ∷ sorted_by key (suc n) l)
      go (yes i) f =
          subst
          (λ b. Permᴰ (sorted_by key n (a ∷ l) ++ cond b (a ∷ with_key key n l) (with_key key n l))
          (a ∷ (sorted_by key n l ++ with_key key n l))) (sym (eqb_no (key a) n (λ e. omega arith)))
          (Permᴰ.append_right (with_key key n l) (f i))
      go (no i) f =
          subst
          (λ b. Permᴰ (sorted_by key n (a ∷ l) ++ cond b (a ∷ with_key key n l) (with_key key n l))
          (a ∷ (sorted_by key n l ++ with_key key n l))) (sym (eq-eqb (key a) n (omega arith)))
          (subst (λ m. Permᴰ (m ++ (a ∷ with_key key n l)) (a ∷ (sorted_by key n l ++ with_key key n l)))
          (sym (insert_past n a l (omega arith))) (Permᴰ.middle a (sorted_by key n l) (with_key key n l)))

  pub sorted_perm : (n : ℕ) (l : List A) → Each (λ a. key a < n) l → Permᴰ (sorted_by key n l) l
  sorted_perm n [] e = subst (λ m. Permᴰ m []) (sym (sorted_nil n)) Permᴰ.nil
  sorted_perm n (a ∷ l) (more p e) =
      Permᴰ.trans (insert_perm n a l p) (Permᴰ.cons refl (sorted_perm n l e))

-- ── what does not depend on the order ──

module _ {A : Type 0} where
  pub length_perm : {l m : List A} → Permᴰ l m → length l ≡ length m
  length_perm Permᴰ.nil = refl
  length_perm (Permᴰ.cons e d) = ap suc (length_perm d)
  length_perm (Permᴰ.swap e f) = refl
  length_perm (Permᴰ.trans d e) = length_perm d ∙ length_perm e

  pub any_perm : (p : A → Bool) {l m : List A} → Permᴰ l m → any p l ≡ any p m
  unfolding any
  any_perm p Permᴰ.nil = refl
  any_perm p (Permᴰ.cons e d) = ap₂ ◌||◌ (ap p e) (any_perm p d)
  any_perm p (Permᴰ.swap {a = a} {b = b} {l = l} e f) =
      or_swap (p a) (p b) (any p l) ∙ ap₂ ◌||◌ (ap p f) (ap (◌|| any p l) (ap p e))
  any_perm p (Permᴰ.trans d e) = any_perm p d ∙ any_perm p e

  module _ {B : Type 0} (f : A → List B) where
    length-gathered : (a : A) (l : List A) → length (gathered f (a ∷ l)) ≡ length (f a) + length (gathered f l)
    unfolding gathered
    length-gathered a l = length-append (f a) (gathered f l)

    pub gathered_perm : {l m : List A} → Permᴰ l m → length (gathered f l) ≡ length (gathered f m)
    gathered_perm Permᴰ.nil = refl
    gathered_perm (Permᴰ.cons {a = a} {b = b} {l₁ = l} {l₂ = m} e d) =
        let i = gathered_perm d in
        omega (arith, length-gathered a l, length-gathered b m, ap (λ x. length (f x)) e)
    gathered_perm (Permᴰ.swap {a = a} {b = b} {a' = a'} {b' = b'} {l = l} e g) =
        omega (
          arith,
          length-gathered a (b ∷ l),
          length-gathered b l,
          length-gathered a' (b' ∷ l),
          length-gathered b' l,
          ap (λ x. length (f x)) e,
          ap (λ x. length (f x)) g,
        )
    gathered_perm (Permᴰ.trans d e) = gathered_perm d ∙ gathered_perm e

    pub gathered_snoc : (l : List A) (a : A)
        → length (gathered f (l ++ (a ∷ []))) ≡ length (gathered f l) + length (f a)
    unfolding gathered
    gathered_snoc [] a = omega (arith, length-append (f a) [])
    gathered_snoc (b ∷ l) a =
        omega
        (arith, length-append (f b) (gathered f (l ++ (a ∷ []))), length-append (f b) (gathered f l), gathered_snoc l a)

-- ── in order ──

-- the keys are c, the number behind it, and so on
unfoldable pub InOrder : {A : Type 0} → (A → ℕ) → ℕ → List A → Type 0
InOrder key c [] = Unit {0}
InOrder key c (a ∷ l) = (key a ≡ c) × InOrder key (suc c) l

module _ {A : Type 0} (key : A → ℕ) where
  order_snoc : (c : ℕ) (l : List A) (a : A) → InOrder key c l → key a ≡ c + length l → InOrder key c (l ++ (a ∷ []))
  unfolding InOrder
  order_snoc c [] a o e = (omega arith, tt)
  order_snoc c (b ∷ l) a o e = (o.0, order_snoc (suc c) l a o.1 (omega arith))

  -- those with a key: none, or one
  with_none : (k : ℕ) (l : List A) → has (map key l) k ≡ false → with_key key k l ≡ []
  unfolding has any with_key
  with_none k [] e = refl
  with_none k (a ∷ l) e =
      ap (λ b. cond b (a ∷ with_key key k l) (with_key key k l)) (or_left (eqb (key a) k) (has (map key l) k) e)
      ∙ with_none k l (or_right (eqb (key a) k) (has (map key l) k) e)

  with-one : (k : ℕ) (l : List A) → twice? (map key l) ≡ false → has (map key l) k ≡ true
      → (a : A) × (with_key key k l ≡ a ∷ []) × (key a ≡ k)
  unfolding has any twice? with_key
  with-one k [] t e = absurd (false≢true e)
  with-one k (a ∷ l) t e =
      go (eqb (key a) k) refl e (with-one k l (or_right (has (map key l) (key a)) (twice? (map key l)) t))
    where
      go : (b : Bool) → eqb (key a) k ≡ b → (b || has (map key l) k) ≡ true
          → (has (map key l) k ≡ true → (x : A) × (with_key key k l ≡ x ∷ []) × (key x ≡ k))
          → (x : A) × (cond b (a ∷ with_key key k l) (with_key key k l) ≡ x ∷ []) × (key x ≡ k)
      go true f g i =
          let h = eqb-true (key a) k f in (
            a,
            ap (a ∷◌) (with_none k l (subst (λ n. has (map key l) n ≡ false) h
                (or_left (has (map key l) (key a)) (twice? (map key l)) t))),
            h,
          )
      go false f g i = i g

  -- a number behind one that is left out is left out
  left_out : (ns : List ℕ) (n : ℕ) → left_out? ns ≡ false → has ns n ≡ false → has ns (suc n) ≡ false
  unfolding left_out? lacks_before
  left_out ns n e h = go (has ns (suc n)) refl
    where
      go : (b : Bool) → has ns (suc n) ≡ b → b ≡ false
      go true f = absurd (true≢false (sym (not-false (has ns n) (any_at (lacks_before ns) ns (suc n) e f)) ∙ h))
      go false f = refl

  -- sorted by the keys below n: in order, and all of these keys are there or n is not
  record Sorts (l : List A) (n : ℕ) : Type 0 where
    order : InOrder key 0 (sorted_by key n l)
    few : length (sorted_by key n l) ≤ n
    full : (length (sorted_by key n l) ≡ n) ⊎ (has (map key l) n ≡ false)

  module _ (l : List A) (t : twice? (map key l) ≡ false) (o : left_out? (map key l) ≡ false) where
    sorts_none : (n : ℕ) → Sorts l n → has (map key l) n ≡ false → Sorts l (suc n)
    unfolding sorted_by
    sorts_none n s h =
        let e = ap (sorted_by key n l ++◌) (with_none n l h) ∙ append-nil (sorted_by key n l) in
        record {
          order = subst (InOrder key 0) (sym e) s.order;
          few = subst (λ m. length m ≤ suc n) (sym e) (let z = s.few in omega arith);
          full = inr (left_out (map key l) n o h);
        }

    sorts_one : (n : ℕ) → Sorts l n → length (sorted_by key n l) ≡ n → has (map key l) n ≡ true → Sorts l (suc n)
    unfolding sorted_by
    sorts_one n s f h =
        let x = with-one n l t h in
        let e = ap (sorted_by key n l ++◌) x.1 in
        let k = length_snoc (sorted_by key n l) x.0 in
        let c = x.2 in
        record {
          order = subst (InOrder key 0) (sym e) (order_snoc 0 (sorted_by key n l) x.0 s.order (omega arith));
          few = subst (λ m. length m ≤ suc n) (sym e) (omega arith);
          full = inl (ap length e ∙ k ∙ ap suc f);
        }

    sorts : (n : ℕ) → Sorts l n
    sorts zero = unfold sorted_by InOrder in record { order = tt; few = omega arith; full = inl refl }
    sorts (suc n) =
        let s = sorts n in
        ⊎_elim (λ f. go s f (has (map key l) n) refl) (λ h. sorts_none n s h) s.full
      where
        go : Sorts l n → length (sorted_by key n l) ≡ n → (b : Bool) → has (map key l) n ≡ b → Sorts l (suc n)
        go s f true h = sorts_one n s f h
        go s f false h = sorts_none n s h

  below_keys : (n : ℕ) (l : List A) → any (λ k. not_below k n) (map key l) ≡ false → Each (λ a. key a < n) l
  unfolding any
  below_keys n [] e = none
  below_keys n (a ∷ l) e =
      more (ltb-true (key a) n (not-false (ltb (key a) n) (or_left _ _ e)))
      (below_keys n l (or_right (not_below (key a) n) (any (λ k. not_below k n) (map key l)) e))

  -- the keys are all numbers from 0 up to some number below the limit, each once
  module _ (limit : ℕ) (l : List A) (e : not_all? limit (map key l) ≡ false) where
    pub all-below : Each (λ a. key a < limit) l
    unfolding not_all?
    all-below = below_keys limit l (or_left _ _ e)

    sorts_all : Sorts l limit
    unfolding not_all?
    sorts_all =
        let r = or_right (any (λ k. not_below k limit) (map key l)) (twice? (map key l) || left_out? (map key l)) e in
        sorts l (or_left (twice? (map key l)) (left_out? (map key l)) r)
        (or_right (twice? (map key l)) (left_out? (map key l)) r) limit

    pub sorted_same : Permᴰ (sorted_by key limit l) l
    sorted_same = sorted_perm key limit l all-below

    pub sorted_order : InOrder key 0 (sorted_by key limit l)
    sorted_order = sorts_all.order

    pub few_names : length l ≤ limit
    few_names = let z = length_perm sorted_same in let f = sorts_all.few in omega arith
