-- The sequential charts of a text, found from left to right: an opening bracket before a chart's name begins one, and
-- no other token does.
use Rattle.std.specs.Prelude.{◌≡◌, Bool, true, false, ◌||◌, cond, List, [], ◌∷◌, ◌++◌, ℕ, ◌+◌, ◌≤◌, ◌<◌, eqb, length}
use Rattle.std.specs.Prelude.{drop}
use Rattle.notation.specs.Syntax.{Sequential}
use Rattle.notation.specs.Grammar.{lpar, rpar, lbrace, rbrace, lsq, rsq, comma, bar, slash, amp, minus, wordDec}
use Rattle.notation.specs.Grammar.{wordBy, letC, letQ, letS, Token, sign, name, Tokens, of_sequential, Text}
use Rattle.tokens.specs.Tokens.{blanks}

-- tokens begin with a chart's name
unfoldable pub named? : Tokens → Bool
named? [] = false
named? (sign k ∷ ts) = false
named? (name letC n ∷ ts) = true
named? (name letQ n ∷ ts) = false
named? (name letS n ∷ ts) = false

-- a token begins a sequential chart, where ts stand behind it
unfoldable pub begins? : Token → Tokens → Bool
begins? (name l n) ts = false
begins? (sign lpar) ts = named? ts
begins? (sign rpar) ts = false
begins? (sign lbrace) ts = false
begins? (sign rbrace) ts = false
begins? (sign lsq) ts = false
begins? (sign rsq) ts = false
begins? (sign comma) ts = false
begins? (sign bar) ts = false
begins? (sign slash) ts = false
begins? (sign amp) ts = false
begins? (sign minus) ts = false
begins? (sign wordDec) ts = false
begins? (sign wordBy) ts = false

-- the sequential charts that are found in tokens: a token that begins none is passed
pub data Found : Tokens → List Sequential → Type 0 where
  nothing : Found [] []
  passed : {ts : Tokens} {ss : List Sequential} (t : Token) → begins? t ts ≡ false → Found ts ss → Found (t ∷ ts) ss
  found : {ts : Tokens} {ss : List Sequential} (s : Sequential) → Found ts ss → Found (of_sequential s ++ ts) (s ∷ ss)

-- ── tokens ──

-- a byte begins a name
unfoldable pub letter? : ℕ → Bool
letter? b = eqb b 99 || (eqb b 113 || eqb b 115)

-- how many bytes the sign has that begins with a byte
unfoldable pub width : ℕ → ℕ
width b = cond (eqb b 68) 3 (cond (eqb b 98) 2 1)

-- r is the place behind the token that stands at a place; it is further on if there is a token
pub record TokenAt (w : List ℕ) (at r : ℕ) : Type 0 where
  pub within : r ≤ length w
  pub onward : at ≤ r
  pub further : at + blanks (drop at w) < length w → at < r
  pub gives : (t : Token) (ts : Tokens) → Text (t ∷ ts) (drop at w) → Text ts (drop r w)

-- r tells whether the token that stands at a place begins a sequential chart
abbrev pub BeginsAt : List ℕ → ℕ → Bool → Type 0
BeginsAt w at r = (t : Token) (ts : Tokens) → Text (t ∷ ts) (drop at w) → r ≡ begins? t ts
