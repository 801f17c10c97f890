-- What a person types, a configuration or a set of signals, and a set as a person reads it. A word is the bytes of its
-- characters. Laws are in Typed/Laws.antt; that what is shown reads back as the same, in Typed/ReadBack.antt; words
-- that are typed right and wrong, in Typed/Example.antt.
use Rattle.std.specs.Prelude.{Bool, true, false, not, ◌&&◌, cond, List, [], ◌∷◌, ◌++◌, map, ℕ, zero, suc, ◌+◌, ◌*◌, ◌-◌}
use Rattle.std.specs.Prelude.{◌^◌, ltb, leb, length, take, drop}
use Prim.Native.Char.{code}
use Rattle.signals.specs.Mask.{◌∪◌, bit, single}
use Rattle.meaning.specs.Meaning.{Set, ∅, same, eq_list}
use Rattle.line.specs.Ascii.{ascii}
use Rattle.line.specs.Line.{decimal, dot, joined}
use Rattle.std.specs.Prelude.{Option}
use Rattle.std.specs.Prelude.{Some, None}
pub mod Laws
pub mod ReadBack
pub mod Example

-- ── numbers ──

unfoldable pub between : ℕ → ℕ → ℕ → Bool
between lo hi b = not (ltb b lo) && leb b hi

-- the value of a digit, lower or upper case; any other character has 16
unfoldable pub value_of : ℕ → ℕ
value_of b =
    cond (between (code "0") (code "9") b) (b - code "0")
    (cond (between (code "a") (code "f") b) (b - code "a" + 10)
    (cond (between (code "A") (code "F") b) (b - code "A" + 10) 16))

-- what is made of the number that was read; if there is none, `other`
abbrev pub given : {A : Type 0} → Option ℕ → (ℕ → A) → A → A
given (Some n) f other = f n
given None f other = other

-- one digit more behind x, in a base; the number is not to go over `most`
unfoldable pub digit_on : ℕ → ℕ → ℕ → ℕ → Option ℕ
digit_on base most x b = cond (ltb (value_of b) base && leb (x * base + value_of b) most)
    (Some (x * base + value_of b)) None

-- so all of a word's
unfoldable pub digits_on : ℕ → ℕ → ℕ → List ℕ → Option ℕ
digits_on base most x [] = Some x
digits_on base most x (b ∷ w) = given (digit_on base most x b) (λ y. digits_on base most y w) None

-- a word of one digit, or of more with no zero in front
unfoldable pub begun : List ℕ → Bool
begun [] = false
begun (b ∷ []) = true
begun (b ∷ c ∷ w) = not (same b (code "0"))

-- a decimal number up to `most`
unfoldable pub number_of : ℕ → List ℕ → Option ℕ
number_of most w = cond (begun w) (digits_on 10 most 0 w) None

-- 1 to 16 hex digits
unfoldable pub hex_of : List ℕ → Option ℕ
hex_of w = cond (between 1 16 (length w)) (digits_on 16 (2 ^ 64 - 1) 0 w) None

-- ── parts ──

-- a character in front of the first part
unfoldable pub in_front : ℕ → List (List ℕ) → List (List ℕ)
in_front b [] = []
in_front b (p ∷ ps) = (b ∷ p) ∷ ps

-- the parts of a word between separators: one more than there are separators
unfoldable pub split : ℕ → List ℕ → List (List ℕ)
split separator [] = [] ∷ []
split separator (b ∷ w) = cond (same b separator) ([] ∷ split separator w) (in_front b (split separator w))

abbrev pub comma : ℕ
comma = code ","

-- ── a set ──

-- `s` and a number from 0 to 63
unfoldable pub signal_of : List ℕ → Option ℕ
signal_of [] = None
signal_of (b ∷ w) = cond (same b (code "s")) (number_of 63 w) None

-- the signals of the parts, joined with s
unfoldable pub signals_on : Set → List (List ℕ) → Option ℕ
signals_on s [] = Some s
signals_on s (p ∷ ps) = given (signal_of p) (λ n. signals_on (s ∪ single n) ps) None

-- `-` for none; `0x` and hex digits; else signals with commas between
unfoldable pub set_of : List ℕ → Option ℕ
set_of w =
    cond (eq_list w (ascii "-")) (Some ∅)
    (cond (eq_list (take 2 w) (ascii "0x")) (hex_of (drop 2 w)) (signals_on ∅ (split comma w)))

-- ── a configuration ──

-- the states of the parts, 0 to 255 each, behind those that are read; none at all if a part is no state, or if they are
-- more than 64
unfoldable pub states_on : List ℕ → List (List ℕ) → List ℕ
states_on states [] = states
states_on states (p ∷ ps) =
    cond (ltb (length states) 64) (given (number_of 255 p) (λ s. states_on (states ++ (s ∷ [])) ps) []) []

-- states with dots between; none if it is not typed so
unfoldable pub config_of : List ℕ → List ℕ
config_of w = states_on [] (split dot w)

-- ── a set as signals ──

-- the signals below n that are in a set, rising
unfoldable pub members_to : ℕ → Set → List ℕ
members_to zero s = []
members_to (suc n) s = members_to n s ++ cond (bit s n) (n ∷ []) []

unfoldable pub shown_signal : ℕ → List ℕ
shown_signal n = code "s" ∷ decimal n

-- `s0,s3`, or `-` for none
unfoldable pub shown : Set → List ℕ
shown s = cond (same s ∅) (ascii "-") (joined comma (map shown_signal (members_to 64 s)))
