-- Bytes of names and words are passed without a break (`Passes`), so breaks stand behind signs of one byte alone. A
-- text laid out has the same tokens (`text_shown`) and spells the same chart (`shown_spells`).
use Rattle.std.specs.Prelude.{◌≡◌, refl, Bool, true, false, cond, List, [], ◌∷◌, ◌++◌, ℕ, zero, suc, ◌+◌, ◌*◌, ◌/◌, ◌%◌}
use Rattle.std.specs.Prelude.{◌<◌, replicate}
use Rattle.std.proofs.Common.{ap, ◌∙◌, append_assoc, arith, ne_eqb, lt-ltb}
use Prim.Native.Char.{code}
use Rattle.line.specs.Line.{digit, digits, width, decimal}
use Rattle.notation.specs.Syntax.{Chart}
use Rattle.notation.specs.Grammar.{Sign, lpar, rpar, lbrace, rbrace, lsq, rsq, comma, bar, slash, amp, minus, wordDec}
use Rattle.notation.specs.Grammar.{wordBy, Letter, letC, letQ, letS, Token, sign, name, Tokens, sign_bytes, letter}
use Rattle.notation.specs.Grammar.{bytes_of, blank, Text, end, blank_then, token_then, Spells}
use Rattle.indent.specs.declared.Place.{Place}
use Rattle.indent.specs.Breaks.{quiet, behind, of_byte, closes, break_at, next_of, shown_from, shown, start}

-- ── bytes that are passed without a break ──

-- a byte behind which nothing changes
abbrev Plain : ℕ → Type 0
Plain b = (s : Place) (next : ℕ) → behind s b next ≡ quiet s

-- u is laid out as it stands
abbrev Passes : List ℕ → Type 0
Passes u = (s : Place) (w : List ℕ) → (q : Place) × (shown_from s (u ++ w) ≡ u ++ shown_from q w)

plain_passes : (b : ℕ) → Plain b → Passes (b ∷ [])
unfolding shown_from break_at
plain_passes b h s w = (quiet s, rw (h s (next_of w)))

append-passes : (u v : List ℕ) → Passes u → Passes v → Passes (u ++ v)
append-passes u v f g s w =
    let p = f s (v ++ w) in
    let q = g p.0 w in
    (q.0, rw (append_assoc, append_assoc) (p.1 ∙ ap (u ++◌) q.1))

-- ── names and words ──

digit_plain : (d : ℕ) → d < 10 → Plain (48 + d)
unfolding behind of_byte closes
digit_plain d h s next =
    rw (
      ne_eqb (48 + d) 40 (λ e. omega arith),
      ne_eqb (48 + d) 41 (λ e. omega arith),
      ne_eqb (48 + d) 44 (λ e. omega arith),
      ne_eqb (48 + d) 91 (λ e. omega arith),
      ne_eqb (48 + d) 123 (λ e. omega arith),
      ne_eqb (48 + d) 124 (λ e. omega arith),
      ne_eqb (48 + d) 125 (λ e. omega arith),
    )

digits-passes : (n x : ℕ) → Passes (digits 10 n x)
unfolding digits digit
digits-passes zero x = λ s w. (s, refl)
digits-passes (suc n) x =
    append-passes (digits 10 n (x / 10)) (digit (x % 10) ∷ []) (digits-passes n (x / 10))
    (rw (lt-ltb (x % 10) 10 (omega arith)) (plain_passes (48 + x % 10) (digit_plain (x % 10) (omega arith))))

letter_plain : (l : Letter) → Plain (letter l)
unfolding letter behind of_byte closes
letter_plain letC s next = refl
letter_plain letQ s next = refl
letter_plain letS s next = refl

name_passes : (l : Letter) (n : ℕ) → Passes (letter l ∷ decimal n)
unfolding decimal
name_passes l n =
    append-passes (letter l ∷ []) (decimal n) (plain_passes (letter l) (letter_plain l)) (digits-passes (width n) n)

words_pass : Passes (sign_bytes wordDec) × Passes (sign_bytes wordBy)
unfolding sign_bytes behind of_byte closes
words_pass = (
  append-passes (68 ∷ []) (101 ∷ 99 ∷ []) (plain_passes 68 (λ s next. refl))
      (append-passes (101 ∷ []) (99 ∷ []) (plain_passes 101 (λ s next. refl)) (plain_passes 99 (λ s next. refl))),
  append-passes (98 ∷ []) (121 ∷ []) (plain_passes 98 (λ s next. refl)) (plain_passes 121 (λ s next. refl)),
)

-- ── blanks ──

blanks_text : {ts : Tokens} {w : List ℕ} (n : ℕ) → Text ts w → Text ts (replicate n 32 ++ w)
unfolding blank
blanks_text zero t = t
blanks_text (suc n) t = blank_then 32 refl (blanks_text n t)

break_text : {ts : Tokens} {w : List ℕ} (s : Place) → Text ts w → Text ts (break_at s ++ w)
unfolding break_at blank
break_text {ts = ts} {w = w} s t = go s.breaks
  where
    go : (b : Bool) → Text ts (cond b (10 ∷ replicate (2 * s.level) 32) [] ++ w)
    go true = blank_then 10 refl (blanks_text (2 * s.level) t)
    go false = t

-- ── texts ──

module _ {ts : Tokens} (w : List ℕ) (rest : (p : Place) → Text ts (shown_from p w)) where
  -- a token that is passed
  token_shown : (t : Token) → Passes (bytes_of t) → (s : Place) → Text (t ∷ ts) (shown_from s (bytes_of t ++ w))
  token_shown t f s = let p = f s w in rw p.1 (token_then t (rest p.0))

  -- a byte, and behind it perhaps a break
  byte_shown : {us : Tokens} (b : ℕ) → ((v : List ℕ) → Text ts v → Text us (b ∷ v)) → (s : Place)
      → Text us (shown_from s (b ∷ w))
  unfolding shown_from
  byte_shown b f s = let p = behind s b (next_of w) in f (break_at p ++ shown_from p w) (break_text p (rest p))

  sign_shown : (k : Sign) (s : Place) → Text (sign k ∷ ts) (shown_from s (sign_bytes k ++ w))
  unfolding bytes_of sign_bytes
  sign_shown lpar = byte_shown (code "(") (λ v. token_then (sign lpar))
  sign_shown rpar = byte_shown (code ")") (λ v. token_then (sign rpar))
  sign_shown lbrace = byte_shown (code "{") (λ v. token_then (sign lbrace))
  sign_shown rbrace = byte_shown (code "}") (λ v. token_then (sign rbrace))
  sign_shown lsq = byte_shown (code "[") (λ v. token_then (sign lsq))
  sign_shown rsq = byte_shown (code "]") (λ v. token_then (sign rsq))
  sign_shown comma = byte_shown (code ",") (λ v. token_then (sign comma))
  sign_shown bar = byte_shown (code "|") (λ v. token_then (sign bar))
  sign_shown slash = byte_shown (code "/") (λ v. token_then (sign slash))
  sign_shown amp = byte_shown (code "&") (λ v. token_then (sign amp))
  sign_shown minus = byte_shown (code "-") (λ v. token_then (sign minus))
  sign_shown wordDec = token_shown (sign wordDec) words_pass.0
  sign_shown wordBy = token_shown (sign wordBy) words_pass.1

pub text_shown : {ts : Tokens} {w : List ℕ} (s : Place) → Text ts w → Text ts (shown_from s w)
unfolding shown_from bytes_of blank
text_shown s end = blank_then 10 refl end
text_shown s (blank_then {w = w} b e t) = byte_shown w (λ p. text_shown p t) b (λ v. blank_then b e) s
text_shown s (token_then {w = w} (sign k) t) = sign_shown w (λ p. text_shown p t) k s
text_shown s (token_then {w = w} (name l n) t) = token_shown w (λ p. text_shown p t) (name l n) (name_passes l n) s

pub shown_spells : (w : List ℕ) (t : Chart) → Spells w t → Spells (shown w) t
shown_spells w t h = text_shown start h
