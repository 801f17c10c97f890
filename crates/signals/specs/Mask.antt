-- Signal sets (RULES 1.2). A set is a number: signal n is in it if its binary digit n is 1. The operations are the
-- machine's own, so that code and definition agree by computing. What they say of a digit is in Mask/Laws.antt.
use Rattle.std.specs.Prelude.{◌≡◌, Bool, ℕ, ◌/◌, ◌%◌, ◌^◌, eqb}
use Rattle.std.specs.Int.Bits.{bit_and, bit_or, bit_xor}
pub mod Laws

infixl 70 ◌∪◌
infixl 75 ◌∩◌
infixl 75 ◌∖◌
-- union (RULES 1.2)
abbrev pub ◌∪◌ : ℕ → ℕ → ℕ
a ∪ b = bit_or a b

-- what is in both (RULES 1.2)
abbrev pub ◌∩◌ : ℕ → ℕ → ℕ
a ∩ b = bit_and a b

-- what is in a and not in b (RULES 1.2)
abbrev pub ◌∖◌ : ℕ → ℕ → ℕ
a ∖ b = bit_xor a (bit_and a b)

-- signal n is in s
unfoldable pub bit : ℕ → ℕ → Bool
bit s n = eqb (s / 2 ^ n % 2) 1

-- the set of signal n alone
unfoldable pub single : ℕ → ℕ
single n = 2 ^ n

-- all of a is in b, as a fact and as a test
abbrev pub Within : ℕ → ℕ → Type 0
Within a b = a ∖ b ≡ 0

abbrev pub within : ℕ → ℕ → Bool
within a b = eqb (a ∖ b) 0

-- a and b have nothing in common, as a fact and as a test
abbrev pub Apart : ℕ → ℕ → Type 0
Apart a b = a ∩ b ≡ 0

abbrev pub apart : ℕ → ℕ → Bool
apart a b = eqb (a ∩ b) 0
