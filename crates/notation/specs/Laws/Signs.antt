-- The bytes of signs and letters: a sign is its first byte and what stands behind it; none is a blank, a digit or
-- another's first byte.
use Rattle.std.specs.Prelude.{◌≡◌, refl, Bool, true, false, ◌||◌, ◌∷◌, ℕ, eqb}
use Rattle.std.proofs.Common.{sym, ap, ◌∙◌, eqb-true}
use Rattle.std.proofs.lemmas.Bool.{false≢true}
use Prim.Native.Char.{code}
use Rattle.notation.specs.Grammar.{sign_bytes, letter, blank, Sign, lpar, rpar, lbrace, rbrace, lsq, rsq, comma}
use Rattle.notation.specs.Grammar.{bar, slash, amp, minus, wordDec, wordBy, Letter, letC, letQ, letS}
use Rattle.notation.specs.Reader.{first_byte, behind, is_digit}

pub sign_bytes_lem : (k : Sign) → sign_bytes k ≡ first_byte k ∷ behind (first_byte k)
unfolding sign_bytes first_byte behind
sign_bytes_lem lpar = refl
sign_bytes_lem rpar = refl
sign_bytes_lem lbrace = refl
sign_bytes_lem rbrace = refl
sign_bytes_lem lsq = refl
sign_bytes_lem rsq = refl
sign_bytes_lem comma = refl
sign_bytes_lem bar = refl
sign_bytes_lem slash = refl
sign_bytes_lem amp = refl
sign_bytes_lem minus = refl
sign_bytes_lem wordDec = refl
sign_bytes_lem wordBy = refl

pub head-blank : (k : Sign) → blank (first_byte k) ≡ false
unfolding blank first_byte
head-blank lpar = refl
head-blank rpar = refl
head-blank lbrace = refl
head-blank rbrace = refl
head-blank lsq = refl
head-blank rsq = refl
head-blank comma = refl
head-blank bar = refl
head-blank slash = refl
head-blank amp = refl
head-blank minus = refl
head-blank wordDec = refl
head-blank wordBy = refl

pub head-digit : (k : Sign) → is_digit (first_byte k) ≡ false
unfolding is_digit first_byte
head-digit lpar = refl
head-digit rpar = refl
head-digit lbrace = refl
head-digit rbrace = refl
head-digit lsq = refl
head-digit rsq = refl
head-digit comma = refl
head-digit bar = refl
head-digit slash = refl
head-digit amp = refl
head-digit minus = refl
head-digit wordDec = refl
head-digit wordBy = refl

pub letter-blank : (l : Letter) → blank (letter l) ≡ false
unfolding blank letter
letter-blank letC = refl
letter-blank letQ = refl
letter-blank letS = refl

pub letter-digit : (l : Letter) → is_digit (letter l) ≡ false
unfolding is_digit letter
letter-digit letC = refl
letter-digit letQ = refl
letter-digit letS = refl

unfoldable lettered : ℕ → Bool
lettered b = eqb b (code "c") || (eqb b (code "q") || eqb b (code "s"))

letter-lettered : (l : Letter) → lettered (letter l) ≡ true
unfolding lettered letter
letter-lettered letC = refl
letter-lettered letQ = refl
letter-lettered letS = refl

head-lettered : (k : Sign) → lettered (first_byte k) ≡ false
unfolding lettered first_byte
head-lettered lpar = refl
head-lettered rpar = refl
head-lettered lbrace = refl
head-lettered rbrace = refl
head-lettered lsq = refl
head-lettered rsq = refl
head-lettered comma = refl
head-lettered bar = refl
head-lettered slash = refl
head-lettered amp = refl
head-lettered minus = refl
head-lettered wordDec = refl
head-lettered wordBy = refl

pub apart : (l : Letter) (k : Sign) → eqb (letter l) (first_byte k) ≡ false
apart l k = go (eqb (letter l) (first_byte k)) refl
  where
    go : (c : Bool) → eqb (letter l) (first_byte k) ≡ c → c ≡ false
    go true e =
        absurd (false≢true (sym (head-lettered k) ∙ sym (ap lettered (eqb-true (letter l) (first_byte k) e))
        ∙ letter-lettered l))
    go false e = refl

pub apart' : (l : Letter) (k : Sign) → eqb (first_byte k) (letter l) ≡ false
apart' l k = go (eqb (first_byte k) (letter l)) refl
  where
    go : (c : Bool) → eqb (first_byte k) (letter l) ≡ c → c ≡ false
    go true e =
        absurd (false≢true (sym (head-lettered k) ∙ ap lettered (eqb-true (first_byte k) (letter l) e)
        ∙ letter-lettered l))
    go false e = refl
