-- A token is told by its first byte: a name (`token_name`) or a sign (`token_sign`); whether it begins a sequential
-- chart (`begins_bracket`, `begins-other`); and whether there is one (`text_end`, `text_some`).
use Rattle.std.specs.Prelude.{◌≡◌, Bool, true, false, cond, List, [], ◌∷◌, ◌++◌, ℕ, suc, ◌+◌, ◌≤◌, ◌<◌, eqb, length}
use Rattle.std.specs.Prelude.{drop, get_or}
use Rattle.std.proofs.Math.Path.{refl}
use Rattle.std.proofs.Common.{sym, ap, ◌∙◌, subst, true≢false, arith, length-drop}
use Rattle.std.proofs.lemmas.Bool.{false≢true}
use Rattle.notation.specs.Grammar.{Sign, lpar, rpar, lbrace, rbrace, lsq, rsq, comma, bar, slash, amp, minus, wordDec}
use Rattle.notation.specs.Grammar.{wordBy, Letter, letC, letQ, letS, letter, Token, sign, sign_bytes, name, Tokens}
use Rattle.notation.specs.Grammar.{bytes_of, Text, end, blank_then}
use Rattle.notation.specs.Reader.{first_byte}
use Rattle.tokens.specs.declared.Name.{Name}
use Rattle.tokens.specs.Tokens.{blanks, after_blanks, BehindSign, NameFrom}
use Rattle.notation.specs.Laws.Signs.{sign_bytes_lem}
use Rattle.tokens.specs.Laws.Text.{text_token, behind-right, named-right}
use Rattle.tokens.specs.Laws.Lists.{peek_sign, peek_name}
use Rattle.lists.specs.Found.{letter?, width, TokenAt, named?, begins?, BeginsAt}

sign_letter : (k : Sign) → letter? (first_byte k) ≡ false
unfolding letter? first_byte
sign_letter lpar = refl
sign_letter rpar = refl
sign_letter lbrace = refl
sign_letter rbrace = refl
sign_letter lsq = refl
sign_letter rsq = refl
sign_letter comma = refl
sign_letter bar = refl
sign_letter slash = refl
sign_letter amp = refl
sign_letter minus = refl
sign_letter wordDec = refl
sign_letter wordBy = refl

sign_width : (k : Sign) → width (first_byte k) ≡ length (sign_bytes k)
unfolding width first_byte sign_bytes
sign_width lpar = refl
sign_width rpar = refl
sign_width lbrace = refl
sign_width rbrace = refl
sign_width lsq = refl
sign_width rsq = refl
sign_width comma = refl
sign_width bar = refl
sign_width slash = refl
sign_width amp = refl
sign_width minus = refl
sign_width wordDec = refl
sign_width wordBy = refl

name_letter : (l : Letter) → letter? (letter l) ≡ true
unfolding letter? letter
name_letter letC = refl
name_letter letQ = refl
name_letter letS = refl

width_some : (b : ℕ) → 0 < width b
unfolding width
width_some b = go (eqb b 68) (eqb b 98)
  where
    go : (c d : Bool) → 0 < cond c 3 (cond d 2 1)
    go true d = omega arith
    go false true = omega arith
    go false false = omega arith

module _ (w : List ℕ) (at : ℕ) where
  pub token_name : (n : Name) → letter? (get_or (after_blanks (drop at w)) 0 0) ≡ true → NameFrom w at n
      → TokenAt w at n.next
  token_name n e f =
      record { within = f.is.within; onward = f.onward; further = f.further; gives = go }
    where
      go : (t : Token) (ts : Tokens) → Text (t ∷ ts) (drop at w) → Text ts (drop n.next w)
      go (sign k) ts t = absurd (true≢false (sym e ∙ ap letter? (peek_sign k t) ∙ sign_letter k))
      go (name l m) ts t = (named-right w at l m n t f.is).1

  pub token_sign : (n r : ℕ) → letter? (get_or (after_blanks (drop at w)) 0 0) ≡ false
      → n ≡ width (get_or (after_blanks (drop at w)) 0 0) → BehindSign w at n r → TokenAt w at r
  token_sign n r e i b =
      record { within = b.within; onward = b.onward; further = b.further some; gives = go }
    where
      some : 0 < n
      some = subst (λ k. 0 < k) (sym i) (width_some (get_or (after_blanks (drop at w)) 0 0))

      go : (t : Token) (ts : Tokens) → Text (t ∷ ts) (drop at w) → Text ts (drop r w)
      go (sign k) ts t =
          behind-right w at k r t
          (b.behind ∙ ap (λ m. drop m (after_blanks (drop at w))) (i ∙ ap width (peek_sign k t) ∙ sign_width k))
      go (name l m) ts t = absurd (false≢true (sym e ∙ ap letter? (peek_name l m t) ∙ name_letter l))

-- ── where a sequential chart begins ──

-- behind the last token stand blanks
pub text_none : {w : List ℕ} → Text [] w → get_or (after_blanks w) 0 0 ≡ 0
unfolding blanks
text_none end = refl
text_none (blank_then b e h) = rw e (text_none h)

sign_c : (k : Sign) → eqb (first_byte k) 99 ≡ false
unfolding first_byte
sign_c lpar = refl
sign_c rpar = refl
sign_c lbrace = refl
sign_c rbrace = refl
sign_c lsq = refl
sign_c rsq = refl
sign_c comma = refl
sign_c bar = refl
sign_c slash = refl
sign_c amp = refl
sign_c minus = refl
sign_c wordDec = refl
sign_c wordBy = refl

-- a chart's name is told by its letter
named_right? : (u : List ℕ) (ts : Tokens) → Text ts u → eqb (get_or (after_blanks u) 0 0) 99 ≡ named? ts
unfolding named? letter
named_right? u [] t = ap (λ b. eqb b 99) (text_none t)
named_right? u (sign k ∷ ts) t = ap (λ b. eqb b 99) (peek_sign k t) ∙ sign_c k
named_right? u (name letC n ∷ ts) t = ap (λ b. eqb b 99) (peek_name letC n t)
named_right? u (name letQ n ∷ ts) t = ap (λ b. eqb b 99) (peek_name letQ n t)
named_right? u (name letS n ∷ ts) t = ap (λ b. eqb b 99) (peek_name letS n t)

module _ (w : List ℕ) (at : ℕ) where
  pub begins-other : (get_or (after_blanks (drop at w)) 0 0 ≡ 40 → ⊥) → BeginsAt w at false
  unfolding begins? first_byte
  begins-other p (name l n) ts t = refl
  begins-other p (sign lpar) ts t = absurd (p (peek_sign lpar t))
  begins-other p (sign rpar) ts t = refl
  begins-other p (sign lbrace) ts t = refl
  begins-other p (sign rbrace) ts t = refl
  begins-other p (sign lsq) ts t = refl
  begins-other p (sign rsq) ts t = refl
  begins-other p (sign comma) ts t = refl
  begins-other p (sign bar) ts t = refl
  begins-other p (sign slash) ts t = refl
  begins-other p (sign amp) ts t = refl
  begins-other p (sign minus) ts t = refl
  begins-other p (sign wordDec) ts t = refl
  begins-other p (sign wordBy) ts t = refl

  pub begins_bracket : (i : ℕ) → get_or (after_blanks (drop at w)) 0 0 ≡ 40 → BehindSign w at 1 i
      → BeginsAt w at (eqb (get_or (after_blanks (drop i w)) 0 0) 99)
  unfolding begins? first_byte letter sign_bytes
  begins_bracket i p b (name letC n) ts t = absurd (let z = peek_name letC n t in omega arith)
  begins_bracket i p b (name letQ n) ts t = absurd (let z = peek_name letQ n t in omega arith)
  begins_bracket i p b (name letS n) ts t = absurd (let z = peek_name letS n t in omega arith)
  begins_bracket i p b (sign lpar) ts t = named_right? (drop i w) ts (behind-right w at lpar i t b.behind)
  begins_bracket i p b (sign rpar) ts t = absurd (let z = peek_sign rpar t in omega arith)
  begins_bracket i p b (sign lbrace) ts t = absurd (let z = peek_sign lbrace t in omega arith)
  begins_bracket i p b (sign rbrace) ts t = absurd (let z = peek_sign rbrace t in omega arith)
  begins_bracket i p b (sign lsq) ts t = absurd (let z = peek_sign lsq t in omega arith)
  begins_bracket i p b (sign rsq) ts t = absurd (let z = peek_sign rsq t in omega arith)
  begins_bracket i p b (sign comma) ts t = absurd (let z = peek_sign comma t in omega arith)
  begins_bracket i p b (sign bar) ts t = absurd (let z = peek_sign bar t in omega arith)
  begins_bracket i p b (sign slash) ts t = absurd (let z = peek_sign slash t in omega arith)
  begins_bracket i p b (sign amp) ts t = absurd (let z = peek_sign amp t in omega arith)
  begins_bracket i p b (sign minus) ts t = absurd (let z = peek_sign minus t in omega arith)
  begins_bracket i p b (sign wordDec) ts t = absurd (let z = peek_sign wordDec t in omega arith)
  begins_bracket i p b (sign wordBy) ts t = absurd (let z = peek_sign wordBy t in omega arith)

-- ── the end of a text ──

blanks-all : {w : List ℕ} → Text [] w → blanks w ≡ length w
unfolding blanks
blanks-all end = refl
blanks-all (blank_then b e h) = rw e (ap suc (blanks-all h))

some_bytes : (t : Token) (v : List ℕ) → 0 < length (bytes_of t ++ v)
unfolding bytes_of
some_bytes (sign k) v = rw (sign_bytes_lem k) (omega arith)
some_bytes (name l n) v = omega arith

module _ (w : List ℕ) (i : ℕ) where
  -- no token is left
  pub text_end : i ≤ length w → Text [] (drop i w) → i + blanks (drop i w) ≡ length w
  text_end l h = omega (arith, blanks-all h, length-drop i w)

  -- a token is left
  pub text_some : (t : Token) (ts : Tokens) → Text (t ∷ ts) (drop i w) → i + blanks (drop i w) < length w
  text_some t ts h =
      let m = text_token h in
      omega
      (arith, some_bytes t m.0, ap length m.1, length-drop (blanks (drop i w)) (drop i w), length-drop i w)
