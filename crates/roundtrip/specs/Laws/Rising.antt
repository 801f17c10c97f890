-- Rising keys. Two lists by rising key with the same members are the same list (`rising_unique`); so a list that is
-- sorted is the order of it that rises, if one does (`sorted_rising`). Two rising sequences of numbers with as many
-- below each limit are the same sequence (`rising-same`).
use Rattle.std.specs.Prelude.{◌≡◌, Bool, ◌⊎◌, ltb}
use Rattle.std.proofs.Math.Path.{refl, ap, ap₂}
use Rattle.std.proofs.Common.{sym, ◌∙◌, subst, inl, inr, ⊎_elim, lt-ltb, le-ltb, ne_eqb, eqb-true}
use Rattle.std.proofs.Math.Bool.{true, false}
use mathlib.Core.List.Memᴰ
use mathlib.Core.List.{List, [], ◌∷◌, ◌++◌, Memᴰ}
use mathlib.Core.List.Permᴰ
use mathlib.Core.List.{Permᴰ}
use Prim.Native.Nat.{ℕ, zero, suc, ◌+◌, ◌≤◌, ◌<◌}
use Rattle.std.proofs.Math.Decide.{dec_lt}
use native.Mathlib.Omega.{arith}
use Rattle.std.proofs.Math.Dec.{eqb}
use Rattle.meaning.specs.Sums.{tally, one}
use Rattle.meaning.specs.Sums.Laws.{tally_most}
use Rattle.meaning.specs.Meaning.{same}
use Rattle.reading.specs.Meant.{sorted_by}
use Rattle.outline.specs.Laws.Sorted.{Each, none, more, each_append, total}
use Rattle.roster.specs.Laws.Sorted.{sorted_perm}
use Rattle.faithful.specs.Faithful.{Rising}
use Rattle.faithful.proofs.Laws.Charts.{mem_perm}
use Rattle.faithful.specs.Laws.Order.{sorted_level}
use Rattle.accepted.specs.Tree.{Climbs}
use Rattle.accepted.specs.Laws.Records.{climbs_all}
use Rattle.accepted.proofs.Laws.Slaves.{level-rising}

-- ── lists ──

each_mem : {A : Type 0} {P : A → Type 0} (l : List A) (a : A) → Each P l → Memᴰ a l → P a
each_mem [] a e m = absurd (Memᴰ.not-nil m)
each_mem {P = P} (b ∷ l) a (more p e) m =
    ⊎_elim (λ q. subst P (sym q) p) (λ w. each_mem l a e w) (Memᴰ.cases_cons m)

mem_each : {A : Type 0} {P : A → Type 0} (l : List A) → ((a : A) → Memᴰ a l → P a) → Each P l
mem_each [] h = none
mem_each (a ∷ l) h = more (h a (Memᴰ.head refl)) (mem_each l (λ b w. h b (Memᴰ.tail w)))

module _ {A : Type 0} (key : A → ℕ) where
  -- one more member, whose key is above all others
  pub rising_snoc : (l : List A) (a : A) → Rising key l → Each (λ b. key b < key a) l → Rising key (l ++ (a ∷ []))
  unfolding Rising
  rising_snoc [] a r e = (none, tt)
  rising_snoc (b ∷ l) a r (more p e) = (each_append r.0 (more p none), rising_snoc l a r.1 e)

  -- every member of l is one of m
  abbrev Among : List A → List A → Type 0
  Among l m = (a : A) → Memᴰ a l → Memᴰ a m

  -- of two rising lists with the same members, the first members have one key
  least : (a b : A) (l m : List A) → Each (λ c. key b < key c) m → Memᴰ a (b ∷ m) → (a ≡ b) ⊎ (key b < key a)
  least a b l m e h = ⊎_elim (λ q. inl q) (λ w. inr (each_mem m a e w)) (Memᴰ.cases_cons h)

  same_first : (a b : A) → (a ≡ b) ⊎ (key b < key a) → (b ≡ a) ⊎ (key a < key b) → a ≡ b
  same_first a b (inl e) q = e
  same_first a b (inr l) (inl e) = sym e
  same_first a b (inr l) (inr m) = absurd (omega arith)

  -- without the first member
  rest : (a b : A) (l m : List A) → a ≡ b → Each (λ c. key a < key c) l → Among (a ∷ l) (b ∷ m) → Among l m
  rest a b l m e r h c w =
      ⊎_elim
      (λ q. absurd (let z = each_mem l c r w in let y = ap key (q ∙ sym e) in omega arith))
      (λ v. v)
      (Memᴰ.cases_cons (h c (Memᴰ.tail w)))

  pub rising_unique : (l m : List A) → Rising key l → Rising key m → Among l m → Among m l → l ≡ m
  unfolding Rising
  rising_unique [] [] r s h g = refl
  rising_unique [] (b ∷ m) r s h g = absurd (Memᴰ.not-nil (g b (Memᴰ.head refl)))
  rising_unique (a ∷ l) [] r s h g = absurd (Memᴰ.not-nil (h a (Memᴰ.head refl)))
  rising_unique (a ∷ l) (b ∷ m) r s h g =
      let e = same_first a b (least a b l m s.0 (h a (Memᴰ.head refl)))
      (least b a m l r.0 (g b (Memᴰ.head refl))) in
      ap₂ ◌∷◌ e (rising_unique l m r.1 s.1 (rest a b l m e r.0 h) (rest b a m l (sym e) s.0 g))

  -- ── no key twice ──

  abbrev times : ℕ → List A → ℕ
  times k l = total (λ a. one (eqb (key a) k)) l

  times_perm : (k : ℕ) {l m : List A} → Permᴰ l m → times k l ≡ times k m
  unfolding total
  times_perm k Permᴰ.nil = refl
  times_perm k (Permᴰ.cons e d) = ap₂ ◌+◌ (ap (λ a. one (eqb (key a) k)) e) (times_perm k d)
  times_perm k (Permᴰ.swap e f) =
      let a = ap (λ a. one (eqb (key a) k)) e in let b = ap (λ a. one (eqb (key a) k)) f in omega arith
  times_perm k (Permᴰ.trans d e) = times_perm k d ∙ times_perm k e

  times_above : (k : ℕ) (l : List A) → Each (λ a. k < key a) l → times k l ≡ 0
  unfolding total
  times_above k [] e = refl
  times_above k (a ∷ l) (more p e) =
      let z = ap one (ne_eqb (key a) k (λ q. omega arith)) in let y = times_above k l e in omega arith

  times-rising : (l : List A) → Rising key l → (k : ℕ) → times k l ≤ 1
  unfolding Rising total
  times-rising [] r k = omega arith
  times-rising (a ∷ l) r k = go (eqb (key a) k) refl (times-rising l r.1 k)
    where
      go : (b : Bool) → eqb (key a) k ≡ b → times k l ≤ 1 → one b + times k l ≤ 1
      go true e h =
          let z = times_above k l (subst (λ k. Each (λ b. k < key b) l) (eqb-true (key a) k e) r.0) in omega arith
      go false e h = omega arith

  pub sorted_rising : (n : ℕ) (l m : List A) → Permᴰ l m → Rising key l → Each (λ a. key a < n) l
      → sorted_by key n m ≡ l
  unfolding same
  sorted_rising n l m d r e =
      let p = sorted_perm key n m (mem_each m (λ a w. each_mem l a e (mem_perm (Permᴰ.symm d) w))) in
      rising_unique (sorted_by key n m) l
      (level-rising key (sorted_by key n m) (sorted_level key n m)
      (λ k. let a = times_perm k p in let b = times_perm k d in let c = times-rising l r k in omega arith))
      r (λ a w. mem_perm (Permᴰ.symm d) (mem_perm p w)) (λ a w. mem_perm (Permᴰ.symm p) (mem_perm d w))

-- ── sequences ──

-- how many of them are below v
abbrev pub under : ℕ → (ℕ → ℕ) → ℕ → ℕ
under n k v = tally n (λ i. one (ltb (k i) v))

under_most : (n : ℕ) (k : ℕ → ℕ) (v m : ℕ) → ((i : ℕ) → m ≤ i → i < n → v ≤ k i) → under n k v ≤ m
unfolding tally
under_most zero k v m h = omega arith
under_most (suc n) k v m h = go (dec_lt n m) (under_most n k v m (λ i a b. h i a (omega arith)))
  where
    all : (n : ℕ) → under n k v ≤ n
    all n = let t = tally_most 1 n (λ i. one (ltb (k i) v)) (λ i l. small (ltb (k i) v)) in omega arith
      where
        small : (b : Bool) → one b ≤ 1
        small true = omega arith
        small false = omega arith

    go : Dec (n < m) → under n k v ≤ m → one (ltb (k n) v) + under n k v ≤ m
    go (yes l) t = let u = all (suc n) in omega arith
    go (no l) t = let z = ap one (le-ltb (k n) v (h n (omega arith) (omega arith))) in omega arith

under-least : (n : ℕ) (k : ℕ → ℕ) (v m : ℕ) → m ≤ n → ((i : ℕ) → i < m → k i < v) → m ≤ under n k v
unfolding tally
under-least zero k v m l h = omega arith
under-least (suc n) k v m l h = go (dec_lt n m) (λ m l h. under-least n k v m l h)
  where
    go : Dec (n < m) → ((m : ℕ) → m ≤ n → ((i : ℕ) → i < m → k i < v) → m ≤ under n k v)
        → m ≤ one (ltb (k n) v) + under n k v
    go (yes a) f =
        let z = ap one (lt-ltb (k n) v (h n a)) in let t = f n (omega arith) (λ i b. h i (omega arith)) in omega arith
    go (no a) f = let t = f m (omega arith) h in omega arith

not_less : (n : ℕ) (j k : ℕ → ℕ) → Climbs n j → Climbs n k → ((v : ℕ) → under n j v ≡ under n k v)
    → (i : ℕ) → i < n → k i ≤ j i
not_less n j k c d u i l = go (dec_lt (j i) (k i))
  where
    up_to : (h : ℕ) → h < suc i → j h ≤ j i
    up_to h b = up (dec_lt h i)
      where
        up : Dec (h < i) → j h ≤ j i
        up (yes a) = let z = climbs_all n j c h i a l in omega arith
        up (no a) = let e : h ≡ i = omega arith in let z = ap j e in omega arith

    from : (h : ℕ) → i ≤ h → h < n → k i ≤ k h
    from h a b = up (dec_lt i h)
      where
        up : Dec (i < h) → k i ≤ k h
        up (yes z) = let y = climbs_all n k d i h z b in omega arith
        up (no z) = let e : h ≡ i = omega arith in let y = ap k e in omega arith

    go : Dec (j i < k i) → k i ≤ j i
    go (yes a) =
        let p = under-least n j (k i) (suc i) (omega arith) (λ h b. let z = up_to h b in omega arith) in
        let q = under_most n k (k i) i from in
        absurd (let z = u (k i) in omega arith)
    go (no a) = omega arith

pub rising-same : (n : ℕ) (j k : ℕ → ℕ) → Climbs n j → Climbs n k → ((v : ℕ) → under n j v ≡ under n k v)
    → (i : ℕ) → i < n → j i ≡ k i
rising-same n j k c d u i l =
    let p = not_less n j k c d u i l in let q = not_less n k j d c (λ v. sym (u v)) i l in omega arith
