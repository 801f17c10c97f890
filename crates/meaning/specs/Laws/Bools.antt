-- Laws of tests: Bool connectives by cases; equal numbers; a test of all numbers below a limit (`every`).
use Rattle.std.specs.Prelude.{◌≡◌, refl, Bool, true, false, ◌&&◌, ◌||◌, not, ◌≢◌, ℕ, zero, suc, ◌<◌, T, eqb}
use Rattle.std.proofs.Common.{sym, ◌∙◌, ap, true≢false, arith, eqb→eq}
use Rattle.std.proofs.lemmas.Bool.{false≢true}
use Rattle.std.proofs.Math.Dec.{eqb_refl}
pub use Rattle.signals.specs.Bools.{and_l, and_r, and_second}
use Rattle.meaning.specs.Meaning.{same}

-- ── Bool ──

pub and_i : {a b : Bool} → a ≡ true → b ≡ true → (a && b) ≡ true
and_i {a = true} h e = e
and_i {a = false} h e = absurd (false≢true h)

-- the second part is compared only where the first holds
pub and_cong : (a a' b b' : Bool) → a ≡ a' → (a' ≡ true → b ≡ b') → (a && b) ≡ (a' && b')
and_cong true true b b' p q = q refl
and_cong true false b b' p q = absurd (true≢false p)
and_cong false true b b' p q = absurd (false≢true p)
and_cong false false b b' p q = refl

pub or_l : (a b : Bool) → a ≡ true → (a || b) ≡ true
or_l true b e = refl
or_l false b e = absurd (false≢true e)

pub or_r : (a b : Bool) → b ≡ true → (a || b) ≡ true
or_r true b e = refl
or_r false b e = e

pub or_elim : (a b : Bool) (P : Type 0) → (a ≡ true → P) → (b ≡ true → P) → (a || b) ≡ true → P
or_elim true b P f g h = f refl
or_elim false b P f g h = g h

pub or_swap : (a b c : Bool) → (a || (b || c)) ≡ (b || (a || c))
or_swap true true c = refl
or_swap true false c = refl
or_swap false b c = refl

pub bool_eq : (a b : Bool) → (a ≡ true → b ≡ true) → (b ≡ true → a ≡ true) → a ≡ b
bool_eq true true f g = refl
bool_eq true false f g = sym (f refl)
bool_eq false true f g = g refl
bool_eq false false f g = refl

pub not-true : {b : Bool} → (b ≡ true → ⊥) → b ≡ false
not-true {b = true} f = absurd (f refl)
not-true {b = false} f = refl

-- ── numbers ──

T→≡ : (b : Bool) → T b → b ≡ true
T→≡ true t = refl
T→≡ false t = absurd t

≡→T : (b : Bool) → b ≡ true → T b
≡→T true e = tt
≡→T false e = false≢true e

pub same_refl : (n : ℕ) → same n n ≡ true
unfolding same
same_refl n = T→≡ (eqb n n) (eqb_refl n)

pub same→≡ : (m n : ℕ) → same m n ≡ true → m ≡ n
unfolding same
same→≡ m n e = eqb→eq m n (≡→T (eqb m n) e)

pub same_≢ : (m n : ℕ) → (m ≡ n → ⊥) → same m n ≡ false
same_≢ m n h = not-true (λ e. h (same→≡ m n e))

pub same→≢ : (m n : ℕ) → same m n ≡ false → m ≢ n
same→≢ m n e q = false≢true (sym e ∙ rw q (same_refl n))

pub same_comm : (m n : ℕ) → same m n ≡ same n m
same_comm m n = bool_eq _ _ (λ e. rw (same→≡ m n e) (same_refl n)) (λ e. rw (same→≡ n m e) (same_refl m))

pub eqb_sym : (m n : ℕ) → eqb m n ≡ eqb n m
unfolding same
eqb_sym m n = same_comm m n

pub differs : (m n : ℕ) → (m ≡ n → ⊥) → not (same m n) ≡ true
differs m n h = ap not (same_≢ m n h)

pub agrees : (m n : ℕ) → m ≡ n → not (same m n) ≡ false
agrees m n e = rw e (ap not (same_refl n))

-- ── a test of all numbers below a limit ──

unfoldable pub every : ℕ → (ℕ → Bool) → Bool
every zero f = true
every (suc n) f = f n && every n f

pub every_intro : (n : ℕ) (f : ℕ → Bool) → ((i : ℕ) → i < n → f i ≡ true) → every n f ≡ true
unfolding every
every_intro zero f h = refl
every_intro (suc n) f h = and_i (h n (omega arith)) (every_intro n f (λ i l. h i (omega arith)))

pub every_elim : (n : ℕ) (f : ℕ → Bool) → every n f ≡ true → (i : ℕ) → i < n → f i ≡ true
unfolding every
every_elim zero f h i l = absurd (omega arith)
every_elim (suc n) f h i l = go (same i n) refl (λ l'. every_elim n f (and_r (f n) (every n f) h) i l')
  where
    go : (b : Bool) → same i n ≡ b → (i < n → f i ≡ true) → f i ≡ true
    go true e rec = rw (same→≡ i n e) (and_l (f n) (every n f) h)
    go false e rec = rec (let ne = same→≢ i n e in omega arith)
