-- Laws of sets as masks, in this order: the digits of a number; a digit of each operation; sets with the same signals
-- are equal; the set of one signal; sets below a limit; inclusion signal by signal; removal as code may write it.
-- Identities of sets are proved by `sets` of Decide.antt.
use Rattle.std.specs.Prelude.{◌≡◌, refl, Bool, true, false, not, ◌&&◌, ◌||◌, eqb}
use Rattle.std.proofs.Common.{sym, ap, ap₂, ◌∙◌, true≢false, mod-lt, le_of_suc-le-suc, not-suc-le-zero, div-add-mod'}
use Rattle.std.proofs.Common.{div-one, pow-suc, mul-div_cancel, lt_of_lt_of_le, lit<, eqb-true, eq-eqb, arith, pow_mono}
use Rattle.std.specs.Bool.{beq}
use Rattle.std.proofs.lemmas.Bool.{false≢true}
use Prim.Native.Nat.{ℕ, zero, suc, ◌+◌, ◌*◌, ◌/◌, ◌%◌, ◌^◌, ◌≤◌, ◌<◌, zero-le, suc-le-suc, min, max}
use Rattle.std.proofs.Math.Nat.{div-div-eq-div-mul, pow-succ', zero-div, mul-mod_left, div-eq_of_lt}
use Rattle.std.proofs.Math.Dec.{eqb-zero-suc, eqb-suc-zero, eqb-suc-suc}
use Rattle.std.proofs.Math.Decide.{dec_lt}
use Rattle.std.proofs.Math.Arith.{bin_ind, digits_div, digits_mod}
use Rattle.std.specs.Int.Bits.{bit_and, bit_or, bit_xor, and_step, or_step, xor_step, differ}
use Rattle.std.proofs.lemmas.Nat.{or_lt}
use Rattle.signals.specs.Mask.{◌∪◌, ◌∩◌, ◌∖◌, bit, single, Within, Apart}

-- ---- the digits of a number
unfoldable pub odd : ℕ → Bool
odd s = eqb (s % 2) 1

pub bit_zero : (s : ℕ) → bit s 0 ≡ odd s
unfolding bit odd
bit_zero s = rw div-one

pub bit_suc : (s n : ℕ) → bit s (suc n) ≡ bit (s / 2) n
unfolding bit
bit_suc s n = rw (pow-succ', ← div-div-eq-div-mul)

-- ---- an operation that goes digit by digit
module _ (op : ℕ → ℕ → ℕ) (f : ℕ → ℕ → ℕ) (g : Bool → Bool → Bool)
    (step : (a b : ℕ) → op a b ≡ op (a / 2) (b / 2) * 2 + f (a % 2) (b % 2))
    (small : (x y : ℕ) → x < 2 → y < 2 → f x y < 2)
    (digit : (x y : ℕ) → x < 2 → y < 2 → eqb (f x y) 1 ≡ g (eqb x 1) (eqb y 1)) where
  op_half : (a b : ℕ) → op a b / 2 ≡ op (a / 2) (b / 2)
  op_half a b = ap (λ (x : ℕ). x / 2) (step a b)
      ∙ digits_div (op (a / 2) (b / 2))
      (small (a % 2) (b % 2) (mod-lt a (suc-le-suc zero-le)) (mod-lt b (suc-le-suc zero-le)))

  op_odd : (a b : ℕ) → op a b % 2 ≡ f (a % 2) (b % 2)
  op_odd a b = ap (λ (x : ℕ). x % 2) (step a b)
      ∙ digits_mod (op (a / 2) (b / 2))
      (small (a % 2) (b % 2) (mod-lt a (suc-le-suc zero-le)) (mod-lt b (suc-le-suc zero-le)))

  bit_op : (n a b : ℕ) → bit (op a b) n ≡ g (bit a n) (bit b n)
  unfolding odd
  bit_op zero a b = rw (bit_zero, bit_zero, bit_zero, op_odd)
      (digit (a % 2) (b % 2) (mod-lt a (suc-le-suc zero-le)) (mod-lt b (suc-le-suc zero-le)))
  bit_op (suc n) a b = rw (bit_suc (op a b), bit_suc a, bit_suc b, op_half) (bit_op n (a / 2) (b / 2))

-- a statement of two digits holds if it holds of the four pairs
two : (P : ℕ → ℕ → Type 0) → P 0 0 → P 0 1 → P 1 0 → P 1 1 → (x y : ℕ) → x < 2 → y < 2 → P x y
two P p q r s zero zero h k = p
two P p q r s zero (suc zero) h k = q
two P p q r s (suc zero) zero h k = r
two P p q r s (suc zero) (suc zero) h k = s
two P p q r s zero (suc (suc y)) h k = absurd (not-suc-le-zero (le_of_suc-le-suc (le_of_suc-le-suc k)))
two P p q r s (suc zero) (suc (suc y)) h k = absurd (not-suc-le-zero (le_of_suc-le-suc (le_of_suc-le-suc k)))
two P p q r s (suc (suc x)) y h k = absurd (not-suc-le-zero (le_of_suc-le-suc (le_of_suc-le-suc h)))

pub bit_cut : (n a b : ℕ) → bit (a ∩ b) n ≡ (bit a n && bit b n)
bit_cut = bit_op bit_and min ◌&&◌ and_step (two (λ (x y : ℕ). min x y < 2) (lit< tt) (lit< tt) (lit< tt) (lit< tt))
    (two (λ (x y : ℕ). eqb (min x y) 1 ≡ (eqb x 1 && eqb y 1)) refl refl refl refl)

pub bit_union : (n a b : ℕ) → bit (a ∪ b) n ≡ (bit a n || bit b n)
bit_union = bit_op bit_or max ◌||◌ or_step (two (λ (x y : ℕ). max x y < 2) (lit< tt) (lit< tt) (lit< tt) (lit< tt))
    (two (λ (x y : ℕ). eqb (max x y) 1 ≡ (eqb x 1 || eqb y 1)) refl refl refl refl)

bit_xor_lem : (n a b : ℕ) → bit (bit_xor a b) n ≡ not (beq (bit a n) (bit b n))
bit_xor_lem = bit_op bit_xor differ
    (λ x y. not (beq x y)) xor_step (two (λ (x y : ℕ). differ x y < 2) (lit< tt) (lit< tt) (lit< tt) (lit< tt))
    (two (λ (x y : ℕ). eqb (differ x y) 1 ≡ not (beq (eqb x 1) (eqb y 1))) refl refl refl refl)

xor_but : (x y : Bool) → not (beq x (x && y)) ≡ (x && not y)
xor_but true true = refl
xor_but true false = refl
xor_but false y = refl

pub bit_less : (n a b : ℕ) → bit (a ∖ b) n ≡ (bit a n && not (bit b n))
bit_less n a b = bit_xor_lem n a (bit_and a b) ∙ ap (λ (x : Bool). not (beq (bit a n) x)) (bit_cut n a b)
    ∙ xor_but (bit a n) (bit b n)

-- nothing is in the empty set
pub bit-none : (n : ℕ) → bit 0 n ≡ false
unfolding bit
bit-none n = rw zero-div

-- ---- two sets with the same signals are equal
same-digit : (x y : ℕ) → x < 2 → y < 2 → eqb x 1 ≡ eqb y 1 → x ≡ y
same-digit = two (λ (x y : ℕ). eqb x 1 ≡ eqb y 1 → x ≡ y) (λ e. refl) (λ e. absurd (false≢true e))
    (λ e. absurd (true≢false e)) (λ e. refl)

same-odd : (a b : ℕ) → bit a 0 ≡ bit b 0 → a % 2 ≡ b % 2
unfolding odd
same-odd a b e = same-digit (a % 2) (b % 2) (mod-lt a (suc-le-suc zero-le)) (mod-lt b (suc-le-suc zero-le))
    (sym (bit_zero a) ∙ e ∙ bit_zero b)

same_half : (a b : ℕ) → ((n : ℕ) → bit a n ≡ bit b n) → (n : ℕ) → bit (a / 2) n ≡ bit (b / 2) n
same_half a b h n = sym (bit_suc a n) ∙ h (suc n) ∙ bit_suc b n

put_together : (a b : ℕ) → a / 2 ≡ b / 2 → a % 2 ≡ b % 2 → a ≡ b
put_together a b p q = sym (div-add-mod' a 2) ∙ ap₂ (λ (x y : ℕ). x * 2 + y) p q ∙ div-add-mod' b 2

ext_zero : (b : ℕ) → ((n : ℕ) → bit 0 n ≡ bit b n) → 0 ≡ b
ext_zero = bin_ind (λ (b : ℕ). ((n : ℕ) → bit 0 n ≡ bit b n) → 0 ≡ b) (λ h. refl)
    (λ b ih h. put_together 0 b (ih (same_half 0 b h)) (same-odd 0 b (h 0)))

pub ext : (a b : ℕ) → ((n : ℕ) → bit a n ≡ bit b n) → a ≡ b
ext = bin_ind (λ (a : ℕ). (b : ℕ) → ((n : ℕ) → bit a n ≡ bit b n) → a ≡ b) ext_zero
    (λ a ih b h. put_together a b (ih (b / 2) (same_half a b h)) (same-odd a b (h 0)))

-- ---- one signal
odd_double : (a : ℕ) → odd (a * 2) ≡ false
unfolding odd
odd_double a = rw mul-mod_left

half_pow : (n : ℕ) → 2 ^ suc n / 2 ≡ 2 ^ n
half_pow n = rw pow-suc (mul-div_cancel (2 ^ n) (suc-le-suc zero-le))

pub bit-single : (n m : ℕ) → bit (single n) m ≡ eqb n m
unfolding single odd
bit-single zero zero = bit_zero 1
bit-single zero (suc m) = bit_suc 1 m ∙ bit-none m ∙ sym (eqb-zero-suc m)
bit-single (suc n) zero = bit_zero (2 ^ suc n) ∙ ap odd (pow-suc 2 n) ∙ odd_double (2 ^ n) ∙ sym (eqb-suc-zero n)
bit-single (suc n) (suc m) =
    bit_suc (2 ^ suc n) m ∙ ap (λ (x : ℕ). bit x m) (half_pow n) ∙ bit-single n m ∙ sym (eqb-suc-suc n m)

-- ---- a set of the signals below k
pub bit_high : (k s n : ℕ) → s < 2 ^ k → k ≤ n → bit s n ≡ false
unfolding bit
bit_high k s n h l = ap (λ (x : ℕ). eqb (x % 2) 1) (div-eq_of_lt (lt_of_lt_of_le h (pow_mono l)))

pub below_bits : (k z : ℕ) → ((n : ℕ) → k ≤ n → bit z n ≡ false) → z < 2 ^ k
below_bits zero z h = let e : z ≡ 0 = ext z 0 (λ n. h n (omega arith) ∙ sym (bit-none n)) in omega arith
below_bits (suc k) z h =
    let r = below_bits k (z / 2) (λ n l. sym (bit_suc z n) ∙ h (suc n) (omega arith)) in
    let d = div-add-mod' z 2 in let m : z % 2 < 2 = mod-lt z (suc-le-suc zero-le) in omega (arith, d, m, r)

pub ext_below : (k a b : ℕ) → a < 2 ^ k → b < 2 ^ k → ((n : ℕ) → n < k → bit a n ≡ bit b n) → a ≡ b
ext_below k a b ha hb h = ext a b (λ n. go n (dec_lt n k))
  where
    go : (n : ℕ) → Dec (n < k) → bit a n ≡ bit b n
    go n (yes l) = h n l
    go n (no f) = bit_high k a n ha (omega arith) ∙ sym (bit_high k b n hb (omega arith))

pub union_lt : (k a b : ℕ) → a < 2 ^ k → b < 2 ^ k → a ∪ b < 2 ^ k
union_lt = or_lt

-- ---- inclusion, signal by signal
and-not : (x y : Bool) → x ≡ true → (x && not y) ≡ false → y ≡ true
and-not x true p q = refl
and-not x false p q = sym q ∙ ap (λ (t : Bool). t && true) p

and-not-of : (x y : Bool) → (x ≡ true → y ≡ true) → (x && not y) ≡ false
and-not-of true y h = ap not (h refl)
and-not-of false y h = refl

pub within-at : (a b : ℕ) → Within a b → (n : ℕ) → bit a n ≡ true → bit b n ≡ true
within-at a b w n p = and-not (bit a n) (bit b n) p (sym (bit_less n a b) ∙ ap (λ (x : ℕ). bit x n) w ∙ bit-none n)

pub within_of : (a b : ℕ) → ((n : ℕ) → bit a n ≡ true → bit b n ≡ true) → Within a b
within_of a b h = ext (a ∖ b) 0 (λ n. bit_less n a b ∙ and-not-of (bit a n) (bit b n) (h n) ∙ sym (bit-none n))

-- signal n is in s exactly if its set is in s
pub single-within : (s n : ℕ) → bit s n ≡ true → Within (single n) s
single-within s n h = within_of (single n) s (λ m e. ap (bit s) (sym (eqb-true n m (sym (bit-single n m) ∙ e))) ∙ h)

pub within-single : (s n : ℕ) → Within (single n) s → bit s n ≡ true
within-single s n w = within-at (single n) s w n (bit-single n n ∙ eq-eqb n n refl)

-- signal n is not in s exactly if its set has nothing in common with s
pub single-apart : (s n : ℕ) → bit s n ≡ false → Apart (single n) s
single-apart s n h =
    ext (single n ∩ s) 0
    (λ m. bit_cut m (single n) s ∙ go m (bit (single n) m) refl ∙ sym (bit-none m))
  where
    go : (m : ℕ) (b : Bool) → bit (single n) m ≡ b → (b && bit s m) ≡ false
    go m true e = ap (bit s) (sym (eqb-true n m (sym (bit-single n m) ∙ e))) ∙ h
    go m false e = refl

pub apart-single : (s n : ℕ) → Apart (single n) s → bit s n ≡ false
apart-single s n w =
    ap (λ (b : Bool). b && bit s n) (sym (bit-single n n ∙ eq-eqb n n refl)) ∙ sym (bit_cut n (single n) s)
    ∙ ap (λ (x : ℕ). bit x n) w ∙ bit-none n

pub ruleset bits = (bit_union, bit_cut, bit_less, bit-none)
