-- Laws of bytes and tokens typed one after another, in this order: the bytes of tokens; bytes; tokens; a sign and a
-- name.
use Rattle.std.specs.Prelude.{◌≡◌, refl, ℕ, ◌+◌, ◌≤◌, ◌<◌, length, set}
use Rattle.std.proofs.Common.{sym, ap, ◌∙◌, arith, length-append}
use mathlib.Core.List.{List, [], ◌∷◌, ◌++◌, append_assoc, append-nil}
use Rattle.std.proofs.Math.Seq.{set_out}
use Rattle.layout.specs.Put.{Put}
use Rattle.layout.specs.Put.Laws.{put-none, put-append, put_byte}
use Rattle.line.specs.Line.{decimal}
use Rattle.notation.specs.Grammar.{Tokens, Token, sign, name, Sign, sign₁, sign_bytes, bytes_of}
use Rattle.notation.specs.Grammar.{lpar, rpar, lbrace, rbrace, lsq, rsq, comma, bar, slash, amp, minus}
use Rattle.notation.specs.Grammar.{wordDec, wordBy, bytes_of_all}
use Rattle.spelling.specs.Numbers.{most_text}
use Rattle.printing.specs.Prints.{Writes, Prints, PrintsSign, PrintsName}

-- ── the bytes of tokens ──

pub bytes-append : (ts us : Tokens) → bytes_of_all (ts ++ us) ≡ bytes_of_all ts ++ bytes_of_all us
unfolding bytes_of_all
bytes-append [] us = refl
bytes-append (t ∷ ts) us = ap (bytes_of t ++◌) (bytes-append ts us) ∙ sym (append_assoc (bytes_of t) _ _)

pub length-bytes : (ts us : Tokens)
    → length (bytes_of_all (ts ++ us)) ≡ length (bytes_of_all ts) + length (bytes_of_all us)
length-bytes ts us = ap length (bytes-append ts us) ∙ length-append (bytes_of_all ts) (bytes_of_all us)

-- no token is empty
token_some : (t : Token) → 0 < length (bytes_of t)
unfolding bytes_of sign_bytes
token_some (sign lpar) = omega arith
token_some (sign rpar) = omega arith
token_some (sign lbrace) = omega arith
token_some (sign rbrace) = omega arith
token_some (sign lsq) = omega arith
token_some (sign rsq) = omega arith
token_some (sign comma) = omega arith
token_some (sign bar) = omega arith
token_some (sign slash) = omega arith
token_some (sign amp) = omega arith
token_some (sign minus) = omega arith
token_some (sign wordDec) = omega arith
token_some (sign wordBy) = omega arith
token_some (name l n) = omega arith

pub bytes_some : (t : Token) (ts : Tokens) → 0 < length (bytes_of_all (t ∷ ts))
unfolding bytes_of_all
bytes_some t ts = rw length-append (omega (arith, token_some t))

-- ── bytes ──

pub writes_none : (at : ℕ) (l : List ℕ) → Writes l at [] l at
writes_none at l = record { put = λ h. put-none at l }

pub writes_append : {l m n xs ys : List ℕ} {at j k : ℕ} → Writes l at xs m j → Writes m j ys n k
    → Writes l at (xs ++ ys) n k
writes_append {xs = xs} {ys} {at} {j} p q =
    record {
      put =
          λ h.
          let a = p.put (omega (arith, length-append xs ys)) in
          put-append a (q.put (omega (arith, a.place, length-append xs ys)));
    }

-- a byte in the buffer, behind its end, and where no text can end
pub writes_in : (l : List ℕ) (at b : ℕ) → Writes l at (b ∷ []) (set l at b) (at + 1)
writes_in l at b = record { put = λ h. put_byte l at b }

pub writes_out : (l : List ℕ) (at b : ℕ) → length l ≤ at → Writes l at (b ∷ []) l (at + 1)
writes_out l at b h = record { put = λ k. rw (set_out l at b h) at (put_byte l at b) }

pub writes_past : (l : List ℕ) (at b : ℕ) → most_text ≤ at → Writes l at (b ∷ []) l at
writes_past l at b h = record { put = λ k. absurd (omega arith) }

-- ── tokens ──

pub prints_none : (at : ℕ) (l : List ℕ) → Prints l at [] l at
unfolding bytes_of_all
prints_none at l = record { writes = writes_none at l }

pub prints_append : {l m n : List ℕ} {ts us : Tokens} {at j k : ℕ} → Prints l at ts m j → Prints m j us n k
    → Prints l at (ts ++ us) n k
prints_append {ts = ts} {us} p q =
    record { writes = rw (bytes-append ts us) (writes_append p.writes q.writes) }

-- what begins at 0 was put there, if no text is longer
pub prints_put : {l m : List ℕ} {ts : Tokens} {k : ℕ} → Prints l 0 ts m k → length (bytes_of_all ts) ≤ most_text
    → Put l 0 (bytes_of_all ts) m k
prints_put p h = p.writes.put (omega arith)

-- ── a sign and a name ──

module _ {l m : List ℕ} {at j : ℕ} where
  pub prints_sign : (k : Sign) → Writes l at (sign_bytes k) m j → Prints l at (sign₁ k) m j
  unfolding bytes_of_all bytes_of
  prints_sign k w = record { writes = rw append-nil w }

  pub prints_byte : {b : ℕ} → Writes l at (b ∷ []) m j → PrintsSign b l at m j
  prints_byte w k e = prints_sign k (rw e w)

  pub prints_name : {b n : ℕ} → Writes l at (b ∷ decimal n) m j → PrintsName b n l at m j
  unfolding bytes_of_all bytes_of
  prints_name {n = n} w k e = record { writes = rw (e, append-nil (decimal n)) w }
