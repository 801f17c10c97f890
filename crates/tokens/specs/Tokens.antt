-- What the next token of a text is, as bytes: behind the blanks a sign, or a name with its number.
use Rattle.std.specs.Prelude.{◌≡◌, cond, List, [], ◌∷◌, ℕ, suc, ◌+◌, ◌*◌, ◌-◌, ◌≤◌, ◌<◌, ltb, length, drop}
use Rattle.notation.specs.Grammar.{blank}
use Rattle.notation.specs.Reader.{is_digit}
use Rattle.tokens.specs.declared.Name.{Name}

-- how many blanks, and how many digits, bytes begin with
unfoldable pub blanks : List ℕ → ℕ
blanks [] = 0
blanks (b ∷ w) = cond (blank b) (suc (blanks w)) 0

unfoldable pub digits : List ℕ → ℕ
digits [] = 0
digits (b ∷ w) = cond (is_digit b) (suc (digits w)) 0

-- a name's number as far as it matters: 1,000 stands for all from there on
unfoldable pub cap : ℕ → ℕ
cap n = cond (ltb n 1000) n 1000

-- the number that the digits at the front go on with, behind x
unfoldable pub number_on : ℕ → List ℕ → ℕ
number_on x [] = x
number_on x (b ∷ w) = cond (is_digit b) (number_on (cap (x * 10 + (b - 48))) w) x

-- r is the number at the front of u, and what stands behind its digits stands at r's place in w
pub record NumberAt (u w : List ℕ) (r : Name) : Type 0 where
  pub value : r.value ≡ number_on 0 u
  pub behind : drop r.next w ≡ drop (digits u) u
  pub within : r.next ≤ length w

-- from the next token on
abbrev pub after_blanks : List ℕ → List ℕ
after_blanks w = drop (blanks w) w

-- r is the place behind a sign of n bytes, the next token from `at` on; it is further on if there is a token
pub record BehindSign (w : List ℕ) (at n r : ℕ) : Type 0 where
  pub behind : drop r w ≡ drop n (after_blanks (drop at w))
  pub within : r ≤ length w
  pub onward : at ≤ r
  pub further : 0 < n → at + blanks (drop at w) < length w → at < r

-- r is the name that is the next token from `at` on
pub record NameFrom (w : List ℕ) (at : ℕ) (r : Name) : Type 0 where
  pub is : NumberAt (drop 1 (after_blanks (drop at w))) w r
  pub onward : at ≤ r.next
  pub further : at + blanks (drop at w) < length w → at < r.next
