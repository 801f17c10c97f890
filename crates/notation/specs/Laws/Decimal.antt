-- Laws of numbers in decimal: one digit, one digit more; which bytes are digits.
use Rattle.std.specs.Prelude.{◌≡◌, Bool, ◌||◌, ◌&&◌, [], ◌∷◌, ◌++◌, ℕ, suc, ◌+◌, ◌*◌, ◌/◌, ◌%◌, ◌≤◌, ◌<◌, eqb, leb}
use Rattle.std.proofs.Math.Path.{refl, ap}
use Rattle.std.proofs.Common.{ap₂, ◌∙◌, arith, leb-true, eqb-true, lt-ltb, le-leb}
use Rattle.std.proofs.Math.Bool.{true, false}
use Rattle.std.proofs.lemmas.Bool.{false≢true}
use Rattle.line.specs.Line.{digit, digits, decimal}
use Rattle.line.specs.Line.Laws.{width_one, width_suc}
use Rattle.notation.specs.Grammar.{blank}
use Rattle.notation.specs.Reader.{is_digit}

-- ── numbers ──

last-digit : (n : ℕ) → digit (n % 10) ≡ 48 + n % 10
unfolding digit
last-digit n = rw (lt-ltb (n % 10) 10 (omega arith))

pub decimal-one : (d : ℕ) → d < 10 → decimal d ≡ (48 + d) ∷ []
unfolding decimal digits
decimal-one d h = rw (width_one d h, last-digit d) (ap (λ x. (48 + x) ∷ []) (let z : d % 10 ≡ d = omega arith in z))

pub decimal-more : (n : ℕ) → 10 ≤ n → decimal n ≡ decimal (n / 10) ++ ((48 + n % 10) ∷ [])
unfolding decimal digits
decimal-more n h = rw (width_suc n h, last-digit n)

pub decimal_snoc : (n d : ℕ) → 0 < n → d < 10 → decimal (n * 10 + d) ≡ decimal n ++ ((48 + d) ∷ [])
decimal_snoc n d h l =
    decimal-more (n * 10 + d) (omega arith)
    ∙ ap₂ (λ x y. decimal x ++ ((48 + y) ∷ [])) (let q : (n * 10 + d) / 10 ≡ n = omega arith in q)
    (let q : (n * 10 + d) % 10 ≡ d = omega arith in q)

-- ── digits ──

pub digit_range : (b : ℕ) → is_digit b ≡ true → (48 ≤ b) × (b ≤ 57)
unfolding is_digit
digit_range b e = go (leb 48 b) refl (leb b 57) refl e
  where
    go : (x : Bool) → leb 48 b ≡ x → (y : Bool) → leb b 57 ≡ y → (x && y) ≡ true → (48 ≤ b) × (b ≤ 57)
    go true p true q z = (leb-true 48 b p, leb-true b 57 q)
    go true p false q z = absurd (false≢true z)
    go false p y q z = absurd (false≢true z)

pub digit_is : (d : ℕ) → d < 10 → is_digit (48 + d) ≡ true
unfolding is_digit
digit_is d h = rw (le-leb 48 (48 + d) (omega arith), le-leb (48 + d) 57 (omega arith))

-- a blank is no digit
pub blank-digit : (b : ℕ) → blank b ≡ true → is_digit b ≡ false
unfolding blank
blank-digit b e = go (eqb b 32) refl (eqb b 10) refl (eqb b 13) refl e
  where
    go : (x : Bool) → eqb b 32 ≡ x → (y : Bool) → eqb b 10 ≡ y → (z : Bool) → eqb b 13 ≡ z → (x || (y || z)) ≡ true
        → is_digit b ≡ false
    go true p y q z r o = ap is_digit (eqb-true b 32 p) ∙ unfold is_digit in refl
    go false p true q z r o = ap is_digit (eqb-true b 10 q) ∙ unfold is_digit in refl
    go false p false q true r o = ap is_digit (eqb-true b 13 r) ∙ unfold is_digit in refl
    go false p false q false r o = absurd (false≢true o)
