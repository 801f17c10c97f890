-- Laws of numbers in little-endian order, in this order: the number of bytes; the bytes of a number; a number read
-- back; a run of stores; both as code reads and writes them, a number as two halves; what is written in a slice is read
-- there again.
use Rattle.std.specs.Prelude.{◌≡◌, refl, List, [], ◌∷◌, ◌++◌, ℕ, zero, suc, ◌+◌, ◌*◌, ◌/◌, ◌%◌, ◌^◌, ◌≤◌, ◌<◌, length}
use Rattle.std.specs.Prelude.{get_or, drop, take, set}
use Rattle.std.proofs.Common.{sym, ap, ap₂, ◌∙◌, append_assoc, zero-mul, mul_assoc, pow-suc, mul-one, zero-add}
use Rattle.std.proofs.Common.{add-zero, suc-add, add-mul, div-one, mod-lt, mod-eq_of_lt, arith, add-one, lit<}
use Rattle.std.proofs.Common.{drop-cons, drop-drop, drop_at, get_or-drop, length-take-le}
use Rattle.std.proofs.Math.Nat.{mod-one, div-div-eq-div-mul, pow-succ', one-le-pow, suc_inj}
use Rattle.std.proofs.Math.Arith.{mod-mul, digits_mod, digits_div}
use Rattle.std.proofs.lemmas.List.Edits.{sets, sets-eq}
use Rattle.layout.specs.Le.{le, bytes, AllBytes}

-- ---- the number of bytes

pub le_nil : (n : ℕ) → le n [] ≡ 0
unfolding le
le_nil zero = refl
le_nil (suc n) = refl

pub le_zero : (s : List ℕ) → le 0 s ≡ 0
unfolding le
le_zero s = refl

-- one byte more
pub le_step : (n : ℕ) (s : List ℕ) (at : ℕ) → at < length s
    → le (suc n) (drop at s) ≡ get_or s at 0 + le n (drop (suc at) s) * 256
unfolding le
le_step n s at h = rw (drop-cons s at 0 h)

-- the first m bytes, and n more
pub le_split : (m n : ℕ) (s : List ℕ) → le (m + n) s ≡ le m s + le n (drop m s) * 256 ^ m
unfolding le
le_split zero n s = rw (zero-add, zero-add) (sym (mul-one (le n s)))
le_split (suc m) n [] = rw (suc-add, le_nil n) (omega (arith, zero-mul (256 ^ suc m)))
le_split (suc m) n (b ∷ s) =
    rw (suc-add, pow-suc, ← mul_assoc) (ap (λ (x : ℕ). b + x * 256) (le_split m n s)
    ∙ omega (arith, add-mul (le m s) (le n (drop m s) * 256 ^ m) 256))

-- n bytes are a number below 256 ^ n
pub le_lt : (n : ℕ) (s : List ℕ) → AllBytes s → le n s < 256 ^ n
unfolding le
le_lt zero s h = lit< tt
le_lt (suc n) [] h = rw pow-suc (omega (arith, one-le-pow n 256 (lit< tt)))
le_lt (suc n) (b ∷ s) h = rw pow-suc (omega (arith, h 0, le_lt n s (λ i. h (suc i))))

-- a part of bytes is bytes
pub bytes_drop : (k : ℕ) (s : List ℕ) → AllBytes s → AllBytes (drop k s)
bytes_drop k s h i = rw get_or-drop (h (k + i))

-- ---- the bytes of a number

pub length-bytes : (n x : ℕ) → length (bytes n x) ≡ n
unfolding bytes
length-bytes zero x = refl
length-bytes (suc n) x = ap suc (length-bytes n (x / 256))

pub bytes-split : (m n x : ℕ) → bytes (m + n) x ≡ bytes m x ++ bytes n (x / 256 ^ m)
unfolding bytes
bytes-split zero n x = rw (zero-add, div-one)
bytes-split (suc m) n x =
    rw (suc-add, pow-succ', ← div-div-eq-div-mul) (ap (λ (l : List ℕ). x % 256 ∷ l) (bytes-split m n (x / 256)))

-- the lowest n + 1 digits: their lowest, and the others
mod_low : (n x : ℕ) → x % 256 ^ suc n ≡ (x / 256 % 256 ^ n) * 256 + x % 256
mod_low n x = rw pow-suc (mod-mul x (one-le-pow n 256 (lit< tt)) (lit< tt))

pub bytes_mod : (n x : ℕ) → bytes n (x % 256 ^ n) ≡ bytes n x
unfolding bytes
bytes_mod zero x = refl
bytes_mod (suc n) x =
    rw mod_low
    (ap₂ (λ (a : ℕ) (l : List ℕ). a ∷ l) (digits_mod (x / 256 % 256 ^ n) (mod-lt x (lit< tt)))
    (ap (bytes n) (digits_div (x / 256 % 256 ^ n) (mod-lt x (lit< tt))) ∙ bytes_mod n (x / 256)))

-- ---- a number read back

pub le_bytes : (n x : ℕ) → le n (bytes n x) ≡ x % 256 ^ n
unfolding le bytes
le_bytes zero x = sym (mod-one x)
le_bytes (suc n) x = rw (mod_low, le_bytes n (x / 256)) (omega arith)

pub le-append : (n : ℕ) (xs ys : List ℕ) → length xs ≡ n → le n (xs ++ ys) ≡ le n xs
unfolding le
le-append zero xs ys h = refl
le-append (suc n) [] ys h = absurd (omega arith)
le-append (suc n) (x ∷ xs) ys h = ap (λ (k : ℕ). x + k * 256) (le-append n xs ys (suc_inj h))

-- whatever comes after it
pub le-bytes-append : (n x : ℕ) (ys : List ℕ) → x < 256 ^ n → le n (bytes n x ++ ys) ≡ x
le-bytes-append n x ys h = le-append n (bytes n x) ys (length-bytes n x) ∙ le_bytes n x ∙ mod-eq_of_lt h

-- ---- a run of stores

pub sets-append : (l : List ℕ) (i : ℕ) (xs ys : List ℕ) → sets l i (xs ++ ys) ≡ sets (sets l i xs) (i + length xs) ys
sets-append l i [] ys = rw add-zero
sets-append l i (x ∷ xs) ys =
    sets-append (set l i x) (suc i) xs ys ∙ ap (λ (k : ℕ). sets (sets (set l i x) (suc i) xs) k ys) (omega arith)

-- where a run of stores begins, it is what stands there
pub drop-sets : (s : List ℕ) (at : ℕ) (xs : List ℕ) → at + length xs ≤ length s
    → drop at (sets s at xs) ≡ xs ++ drop (at + length xs) s
drop-sets s at xs h =
    rw (sets-eq xs s at h, append_assoc) (drop_at (take at s) _ at (length-take-le at s (omega arith)))

-- ---- as code reads and writes

-- two bytes
pub le-two : (s : List ℕ) (at : ℕ) → at + 2 ≤ length s → get_or s at 0 + get_or s (at + 1) 0 * 256 ≡ le 2 (drop at s)
le-two s at h =
    rw (le_step 1 s at (omega arith), le_step 0 s (suc at) (omega arith), le_zero, add-one) (omega arith)

pub put_two : (s : List ℕ) (at x : ℕ) → x < 256 ^ 2
    → set (set s at (x % 256)) (at + 1) (x / 256) ≡ sets s at (bytes 2 x)
unfolding bytes
put_two s at x h = ap₂ (λ (i y : ℕ). set (set s at (x % 256)) i y) (add-one at) (sym (mod-eq_of_lt (omega arith)))

-- two halves
pub le_twice : (n : ℕ) (s : List ℕ) (at : ℕ)
    → le n (drop at s) + le n (drop (at + n) s) * 256 ^ n ≡ le (n + n) (drop at s)
le_twice n s at = rw (le_split, drop-drop)

pub put_twice : (n : ℕ) (s : List ℕ) (at x : ℕ)
    → sets (sets s at (bytes n (x % 256 ^ n))) (at + n) (bytes n (x / 256 ^ n)) ≡ sets s at (bytes (n + n) x)
put_twice n s at x =
    rw (bytes_mod, bytes-split, sets-append)
    (ap (λ (k : ℕ). sets (sets s at (bytes n x)) (at + k) (bytes n (x / 256 ^ n))) (sym (length-bytes n x)))

-- ---- what is written in a slice is read there again
pub le-put : (n : ℕ) (s : List ℕ) (at x : ℕ) → at + n ≤ length s → x < 256 ^ n
    → le n (drop at (sets s at (bytes n x))) ≡ x
le-put n s at x h k = rw (drop-sets s at (bytes n x) (rw length-bytes h)) (le-bytes-append n x _ k)
