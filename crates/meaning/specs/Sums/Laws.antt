-- Laws of `any_up_to` and `tally`, grouped under each: first the forms that a loop which counts up uses, none passed,
-- one
-- more passed, one found, all passed; then, of sums, those of the same, of nothing, of ones, of sums, in another order,
-- from the front, of one place only, of fewer, of no more than so much each, of two places, of multiples, of no more at
-- each place.
use Rattle.std.specs.Prelude.{◌≡◌, refl, Bool, true, false, ◌||◌, ◌≢◌, ◌⊎◌, ℕ, zero, suc, ◌+◌, ◌*◌, ◌≤◌, ◌<◌}
use Rattle.std.proofs.Common.{sym, ◌∙◌, ap, ap₂, inl, inr, ⊎_elim, le_refl, eq-or-lt_of_le, mul-suc, mul-add, add-one}
use Rattle.std.proofs.Common.{arith}
use Rattle.std.proofs.lemmas.Bool.{false≢true}
use Rattle.meaning.specs.Sums.{any_up_to, tally}
use Rattle.meaning.specs.Laws.Bools.{or_r}

pub below_suc : (k n : ℕ) → k < suc n → (k ≡ n) ⊎ (k < n)
below_suc k n l = eq-or-lt_of_le (let h : k ≤ n = omega arith in h)

-- ── anyUpTo ──

pub any_none : (p : ℕ → Bool) → any_up_to 0 p ≡ false
unfolding any_up_to
any_none p = refl

pub any-more : (n : ℕ) (p : ℕ → Bool) → any_up_to n p ≡ false → p n ≡ false → any_up_to (n + 1) p ≡ false
unfolding any_up_to
any-more n p h g = rw (add-one, h) g

pub or_left : (a b : Bool) → (a || b) ≡ false → a ≡ false
or_left true b h = h
or_left false b h = refl

pub or_right : (a b : Bool) → (a || b) ≡ false → b ≡ false
or_right true b h = absurd (false≢true (sym h))
or_right false b h = h

pub or_three : (a b c : Bool) → (a || b || c) ≡ false → (a ≡ false) × (b ≡ false) × (c ≡ false)
or_three a b c h = let q = or_left (a || b) c h in (or_left a b q, or_right a b q, or_right (a || b) c h)

pub or_four : (a b c d : Bool) → (a || b || c || d) ≡ false → (a ≡ false) × (b ≡ false) × (c ≡ false) × (d ≡ false)
or_four a b c d h = let q = or_three a b c (or_left (a || b || c) d h) in (q.0, q.1, q.2, or_right (a || b || c) d h)

-- one found
pub any_at : (n : ℕ) (p : ℕ → Bool) (k : ℕ) → k < n → p k ≡ true → any_up_to n p ≡ true
unfolding any_up_to
any_at zero p k l e = absurd (omega arith)
any_at (suc n) p k l e =
    ⊎_elim (λ q. rw (← q, e) (or_r (any_up_to k p) true refl)) (λ m. rw (any_at n p k m e)) (below_suc k n l)

-- all passed
pub any-never : (n : ℕ) (p : ℕ → Bool) → any_up_to n p ≡ false → (k : ℕ) → k < n → p k ≡ false
unfolding any_up_to
any-never zero p h k l = absurd (omega arith)
any-never (suc n) p h k l =
    ⊎_elim (λ q. rw q (or_right (any_up_to n p) (p n) h))
    (λ m. any-never n p (or_left (any_up_to n p) (p n) h) k m) (below_suc k n l)

-- a counter that is at the limit has passed all
pub any-done : (i n : ℕ) (p : ℕ → Bool) → i ≤ n → n ≤ i → any_up_to i p ≡ false → false ≡ any_up_to n p
any-done i n p a b h = let e : n ≡ i = omega arith in rw e (sym h)

pub any-all : (n : ℕ) (p : ℕ → Bool) → ((k : ℕ) → k < n → p k ≡ false) → any_up_to n p ≡ false
unfolding any_up_to
any-all zero p h = refl
any-all (suc n) p h = rw (any-all n p (λ k l. h k (omega arith))) (h n (omega arith))

pub any_cong : (n : ℕ) (p q : ℕ → Bool) → ((k : ℕ) → k < n → p k ≡ q k) → any_up_to n p ≡ any_up_to n q
unfolding any_up_to
any_cong zero p q h = refl
any_cong (suc n) p q h = rw (any_cong n p q (λ k l. h k (omega arith)), h n (omega arith))

-- ── tally ──

pub tally-none : (f : ℕ → ℕ) → tally 0 f ≡ 0
unfolding tally
tally-none f = refl

pub tally-more : (n : ℕ) (f : ℕ → ℕ) → tally (n + 1) f ≡ f n + tally n f
unfolding tally
tally-more n f = rw add-one

pub tally-done : (i n : ℕ) (f : ℕ → ℕ) → i ≤ n → n ≤ i → tally i f ≡ tally n f
tally-done i n f a b = let e : i ≡ n = omega arith in rw e

pub tally_cong : (n : ℕ) (f g : ℕ → ℕ) → ((i : ℕ) → i < n → f i ≡ g i) → tally n f ≡ tally n g
unfolding tally
tally_cong zero f g h = refl
tally_cong (suc n) f g h = ap₂ ◌+◌ (h n (omega arith)) (tally_cong n f g (λ i l. h i (omega arith)))

pub tally_zero : (n : ℕ) (f : ℕ → ℕ) → ((i : ℕ) → i < n → f i ≡ 0) → tally n f ≡ 0
unfolding tally
tally_zero zero f h = refl
tally_zero (suc n) f h = let a = h n (omega arith) in let b = tally_zero n f (λ i l. h i (omega arith)) in omega arith

pub tally_ones : (n : ℕ) → tally n (λ i. 1) ≡ n
unfolding tally
tally_ones zero = refl
tally_ones (suc n) = let h = tally_ones n in omega arith

pub tally_add : (n : ℕ) (f g : ℕ → ℕ) → tally n (λ i. f i + g i) ≡ tally n f + tally n g
unfolding tally
tally_add zero f g = refl
tally_add (suc n) f g = let a = tally_add n f g in omega arith

pub tally_swap : (n m : ℕ) (h : ℕ → ℕ → ℕ) → tally n (λ j. tally m (λ i. h i j)) ≡ tally m (λ i. tally n (λ j. h i j))
unfolding tally
tally_swap zero m h = sym (tally_zero m (λ i. 0) (λ i l. refl))
tally_swap (suc n) m h =
    ap (λ z. tally m (λ i. h i n) + z) (tally_swap n m h) ∙ sym (tally_add m (λ i. h i n) (λ i. tally n (λ j. h i j)))

pub tally-front : (n : ℕ) (f : ℕ → ℕ) → tally (suc n) f ≡ f 0 + tally n (λ i. f (suc i))
unfolding tally
tally-front zero f = refl
tally-front (suc n) f = let a = tally-front n f in omega arith

-- one place only
pub tally_only : (n : ℕ) (f : ℕ → ℕ) (i : ℕ) → i < n → ((k : ℕ) → k < n → k ≢ i → f k ≡ 0) → tally n f ≡ f i
unfolding tally
tally_only zero f i l h = absurd (omega arith)
tally_only (suc n) f i l h =
    ⊎_elim
    (λ e. let z = tally_zero n f (λ k q. h k (omega arith) (λ w. omega arith)) in rw e (omega arith))
    (λ m. let a = h n (omega arith) (λ w. omega arith) in let b = tally_only n f i m (λ k q. h k (omega arith)) in
    omega arith)
    (below_suc i n l)

-- a place with all before it
pub tally_plus : (n : ℕ) (f : ℕ → ℕ) (i : ℕ) → i < n → f i + tally i f ≤ tally n f
unfolding tally
tally_plus zero f i l = absurd (omega arith)
tally_plus (suc n) f i l =
    ⊎_elim (λ e. rw e (le_refl _)) (λ m. let h = tally_plus n f i m in omega arith) (below_suc i n l)

pub tally_ge : (n : ℕ) (f : ℕ → ℕ) (i : ℕ) → i < n → f i ≤ tally n f
tally_ge n f i l = let h = tally_plus n f i l in omega arith

pub tally_mono : (k n : ℕ) (f : ℕ → ℕ) → k ≤ n → tally k f ≤ tally n f
tally_mono k n f l = ⊎_elim (λ e. rw e (le_refl _)) (λ m. let h = tally_plus n f k m in omega arith) (eq-or-lt_of_le l)

-- no more than m at each
pub tally_most : (m n : ℕ) (f : ℕ → ℕ) → ((k : ℕ) → k < n → f k ≤ m) → tally n f ≤ m * n
unfolding tally
tally_most m zero f h = omega arith
tally_most m (suc n) f h = rw mul-suc (omega (arith, h n (omega arith), tally_most m n f (λ k l. h k (omega arith))))

pub tally-two : (n : ℕ) (f : ℕ → ℕ) (i j : ℕ) → i < n → j < n → i ≢ j → f i + f j ≤ tally n f
unfolding tally
tally-two zero f i j l m d = absurd (omega arith)
tally-two (suc n) f i j l m d = go (below_suc i n l) (below_suc j n m) (λ h k. tally-two n f i j h k d)
  where
    go : (i ≡ n) ⊎ (i < n) → (j ≡ n) ⊎ (j < n) → (i < n → j < n → f i + f j ≤ tally n f) → f i + f j ≤ f n + tally n f
    go (inl p) (inl q) r = absurd (d (p ∙ sym q))
    go (inl p) (inr k) r = let y = tally_ge n f j k in rw p (omega arith)
    go (inr h) (inl q) r = let y = tally_ge n f i h in rw q (omega arith)
    go (inr h) (inr k) r = let y = r h k in omega arith

pub tally-find : (n : ℕ) (f : ℕ → ℕ) → 0 < tally n f → (i : ℕ) × (i < n) × (0 < f i)
unfolding tally
tally-find zero f h = absurd (omega arith)
tally-find (suc n) f h = go (f n) refl (λ p. tally-find n f p)
  where
    go : (x : ℕ) → f n ≡ x → (0 < tally n f → (i : ℕ) × (i < n) × (0 < f i)) → (i : ℕ) × (i < suc n) × (0 < f i)
    go zero e r = let u = r (omega arith) in (u.0, (let h = u.1 in omega arith), u.2)
    go (suc x) e r = (n, omega arith, omega arith)

-- so many times as much
pub tally_scale : (n a : ℕ) (f : ℕ → ℕ) → tally n (λ i. a * f i) ≡ a * tally n f
unfolding tally
tally_scale zero a f = omega arith
tally_scale (suc n) a f = ap (λ z. a * f n + z) (tally_scale n a f) ∙ sym (mul-add a (f n) (tally n f))

-- no more at each place
pub tally-le : (n : ℕ) (f g : ℕ → ℕ) → ((i : ℕ) → i < n → f i ≤ g i) → tally n f ≤ tally n g
unfolding tally
tally-le zero f g h = omega arith
tally-le (suc n) f g h = let a = h n (omega arith) in let b = tally-le n f g (λ i l. h i (omega arith)) in omega arith
