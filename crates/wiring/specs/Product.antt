-- Products over charts, as `tally` (Sums) has sums: over the first n (`times`), and over n from k on (`over`). In this
-- order: the forms that a loop which counts up uses; equal factors, factors that are 1, factors that are not 0;
-- products with larger factors and products as far as they are made; products from k on.
use Rattle.std.specs.Prelude.{◌≡◌, refl, ℕ, zero, suc, ◌+◌, ◌*◌, ◌≤◌, ◌<◌}
use Rattle.std.proofs.Common.{sym, ◌∙◌, ap, ap₂, subst, ⊎_elim, mul-one, one-mul, zero-mul, mul-zero, mul_assoc}
use Rattle.std.proofs.Common.{mul_comm, zero-add, mul-pos, mul-le-mul, le_refl, eq-or-lt_of_le, add-one, arith}
use Rattle.std.proofs.Math.Nat.{mul-mul-mul_comm}
use Rattle.meaning.specs.Sums.Laws.{below_suc}

-- f 0 * f 1 * .. * f (n - 1)
unfoldable pub times : ℕ → (ℕ → ℕ) → ℕ
times zero f = 1
times (suc n) f = f n * times n f

-- f k * f (k + 1) * .. * f (k + n - 1)
unfoldable pub over : ℕ → ℕ → (ℕ → ℕ) → ℕ
over zero k f = 1
over (suc n) k f = f k * over n (suc k) f

-- ── times ──

pub times_none : (f : ℕ → ℕ) → times 0 f ≡ 1
unfolding times
times_none f = refl

pub times_more : (n : ℕ) (f : ℕ → ℕ) → times (n + 1) f ≡ f n * times n f
unfolding times
times_more n f = rw add-one

pub times_cong : (n : ℕ) (f g : ℕ → ℕ) → ((i : ℕ) → i < n → f i ≡ g i) → times n f ≡ times n g
unfolding times
times_cong zero f g h = refl
times_cong (suc n) f g h = ap₂ ◌*◌ (h n (omega arith)) (times_cong n f g (λ i l. h i (omega arith)))

pub times-one : (n : ℕ) (f : ℕ → ℕ) → ((i : ℕ) → i < n → f i ≡ 1) → times n f ≡ 1
unfolding times
times-one zero f h = refl
times-one (suc n) f h = ap₂ ◌*◌ (h n (omega arith)) (times-one n f (λ i l. h i (omega arith))) ∙ omega arith

-- it is 0 exactly where some factor is
pub times_pos : (n : ℕ) (f : ℕ → ℕ) → ((i : ℕ) → i < n → 0 < f i) → 0 < times n f
unfolding times
times_pos zero f h = omega arith
times_pos (suc n) f h = mul-pos (h n (omega arith)) (times_pos n f (λ i l. h i (omega arith)))

pos_left : (a b : ℕ) → 0 < a * b → 0 < a
pos_left zero b h = absurd (omega (arith, rw zero-mul at h))
pos_left (suc a) b h = omega arith

pos_right : (a b : ℕ) → 0 < a * b → 0 < b
pos_right a zero h = absurd (omega (arith, rw mul-zero at h))
pos_right a (suc b) h = omega arith

pub times-at : (n : ℕ) (f : ℕ → ℕ) → 0 < times n f → (i : ℕ) → i < n → 0 < f i
unfolding times
times-at zero f h i l = absurd (omega arith)
times-at (suc n) f h i l =
    ⊎_elim (λ e. rw e (pos_left (f n) (times n f) h)) (λ m. times-at n f (pos_right (f n) (times n f) h) i m)
    (below_suc i n l)

pub times-le : (n : ℕ) (f g : ℕ → ℕ) → ((i : ℕ) → i < n → f i ≤ g i) → times n f ≤ times n g
unfolding times
times-le zero f g h = omega arith
times-le (suc n) f g h = mul-le-mul (h n (omega arith)) (times-le n f g (λ i l. h i (omega arith)))

pub grow : (a b c : ℕ) → 0 < a → c ≤ b → c ≤ a * b
grow a b c p q = subst (λ z. z ≤ a * b) (one-mul c) (mul-le-mul (let h : 1 ≤ a = omega arith in h) q)

-- as far as it is made, where no factor is 0
pub times-part : (n k : ℕ) (f : ℕ → ℕ) → ((i : ℕ) → i < n → 0 < f i) → k ≤ n → times k f ≤ times n f
unfolding times
times-part zero k f h l = let e : k ≡ zero = omega arith in rw e (omega arith)
times-part (suc n) k f h l =
    ⊎_elim (λ (e : k ≡ suc n). rw e (le_refl (f n * times n f)))
    (λ (m : k < suc n). grow (f n) (times n f) (times k f) (h n (omega arith))
    (times-part n k f (λ i q. h i (omega arith)) (omega arith)))
    (eq-or-lt_of_le l)

-- one factor
pub times_factor : (n : ℕ) (f : ℕ → ℕ) → ((i : ℕ) → i < n → 0 < f i) → (d : ℕ) → d < n → f d ≤ times n f
unfolding times
times_factor zero f h d l = absurd (omega arith)
times_factor (suc n) f h d l =
    ⊎_elim
    (λ (e : d ≡ n). rw (e, mul_comm)
    (grow (times n f) (f n) (f n) (times_pos n f (λ i q. h i (omega arith))) (le_refl (f n))))
    (λ (m : d < n). grow (f n) (times n f) (f d) (h n (omega arith)) (times_factor n f (λ i q. h i (omega arith)) d m))
    (below_suc d n l)

-- ── over ──

pub over_cong : (n k : ℕ) (f g : ℕ → ℕ) → ((d : ℕ) → k ≤ d → d < n + k → f d ≡ g d) → over n k f ≡ over n k g
unfolding over
over_cong zero k f g h = refl
over_cong (suc n) k f g h =
    ap₂ ◌*◌ (h k (omega arith) (omega arith)) (over_cong n (suc k) f g (λ d p q. h d (omega arith) (omega arith)))

pub over_mul : (n k : ℕ) (f g : ℕ → ℕ) → over n k (λ d. f d * g d) ≡ over n k f * over n k g
unfolding over
over_mul zero k f g = refl
over_mul (suc n) k f g =
    ap (λ z. f k * g k * z) (over_mul n (suc k) f g)
    ∙ mul-mul-mul_comm (f k) (g k) (over n (suc k) f) (over n (suc k) g)

pub over_pos : (n k : ℕ) (f : ℕ → ℕ) → ((d : ℕ) → k ≤ d → d < n + k → 0 < f d) → 0 < over n k f
unfolding over
over_pos zero k f h = omega arith
over_pos (suc n) k f h =
    mul-pos (h k (omega arith) (omega arith)) (over_pos n (suc k) f (λ d p q. h d (omega arith) (omega arith)))

times-over : (n k : ℕ) (f : ℕ → ℕ) → times (n + k) f ≡ times k f * over n k f
unfolding over times
times-over zero k f = rw zero-add (sym (mul-one (times k f)))
times-over (suc n) k f =
    ap (λ z. times z f) (let h : suc n + k ≡ n + suc k = omega arith in h) ∙ times-over n (suc k) f
    ∙ ap (λ z. z * over n (suc k) f) (mul_comm (f k) (times k f)) ∙ mul_assoc (times k f) (f k) (over n (suc k) f)

-- all factors before k are 1
pub over-all : (N n k : ℕ) (f : ℕ → ℕ) → n + k ≡ N → ((d : ℕ) → d < k → f d ≡ 1) → over n k f ≡ times N f
over-all N n k f e h =
    sym (ap (λ z. times z f) (sym e) ∙ times-over n k f ∙ ap (λ z. z * over n k f) (times-one k f h)
    ∙ one-mul (over n k f))
