-- The tokens of a chart close exactly what they open, so that behind them stands the bracket that closes what stood
-- before them: bytes one by one (`closing-..`), tokens (`goes-..`), each form (`even-..`), and the bracket behind even
-- tokens (`close_par`, `close_brace`).
use Rattle.std.specs.Prelude.{◌≡◌, refl, Bool, ◌||◌, ◌&&◌, List, [], ◌∷◌, ◌++◌, ℕ, suc, ◌+◌, ◌-◌, ◌≤◌, ◌<◌, eqb, length}
use Rattle.std.specs.Prelude.{drop, get_or}
use Rattle.std.proofs.Math.Path.{sym, ap}
use Rattle.std.proofs.Common.{◌∙◌, subst, append_assoc, add-one, eqb-true, ne_eqb, drop_of_length-le}
use Rattle.std.proofs.Math.Bool.{true, false, cond}
use Rattle.std.proofs.lemmas.Bool.{false≢true}
use Rattle.std.proofs.Math.Option.{Option, none, some}
use native.Mathlib.Omega.{arith}
use Rattle.notation.specs.Syntax.{OneOrMore, one, ◌▸◌, Signals, Literal, needed, barred, Transition, Heading}
use Rattle.notation.specs.Syntax.{Sequential, Single, sequential, decomposed, hidden, Chart, single, composed}
use Rattle.notation.specs.Syntax.{Slaves, first_slave, more_slaves}
use Rattle.notation.specs.Grammar.{Sign, lpar, rpar, lbrace, rbrace, lsq, rsq, comma, bar, slash, amp, minus, wordDec}
use Rattle.notation.specs.Grammar.{wordBy, Letter, letC, letQ, letS, sign, Tokens, sign₁, name₁, of_names}
use Rattle.notation.specs.Grammar.{of_set, of_optional, of_literal, of_literals, of_guard, of_transition}
use Rattle.notation.specs.Grammar.{of_transition_list}
use Rattle.notation.specs.Grammar.{of_transitions, of_heading, of_extra, of_sequential, of_single, of_chart, of_part}
use Rattle.notation.specs.Grammar.{of_slaves}
use Rattle.notation.specs.Grammar.{sign_bytes, letter, bytes_of, blank, Text, token_then}
use Rattle.notation.specs.Reader.{is_digit}
use Rattle.notation.specs.Laws.Decimal.{digit_range}
use Rattle.tokens.specs.Tokens.{blanks, digits}
use Rattle.tokens.specs.Laws.Text.{text_token, text_name}
use Rattle.tokens.specs.Laws.Lists.{peek_name}
use Rattle.tokens.specs.Laws.Steps.{at}
use Rattle.walk.specs.Brackets.{opens?, closes?, ends?, opened, closing, ClosesAt}

-- ── the loop ──

module _ (w : List ℕ) (i n : ℕ) where
  pub closing_here : i < length w → ends? n (get_or w i 0) ≡ true → drop i w ≡ closing n (drop i w)
  unfolding closing
  closing_here l e = at w i l ∙ sym (ap (closing n) (at w i l) ∙ rw e)

  pub closing-on : i < length w → ends? n (get_or w i 0) ≡ false
      → closing n (drop i w) ≡ closing (opened n (get_or w i 0)) (drop (i + 1) w)
  unfolding closing
  closing-on l e = ap (closing n) (at w i l) ∙ rw e

  pub closing_end : length w ≤ i → drop i w ≡ closing n (drop i w)
  closing_end l =
      drop_of_length-le w {i = i} l ∙ sym (ap (closing n) (drop_of_length-le w {i = i} l) ∙ unfold closing in refl)

module _ (n b : ℕ) where
  pub opened-more : opens? b ≡ true → n + 1 ≡ opened n b
  unfolding opened
  opened-more e = rw e (add-one n)

  pub opened_less : (m : ℕ) → m ≡ n - 1 → opens? b ≡ false → closes? b ≡ true → m ≡ opened n b
  unfolding opened
  opened_less m h e f = rw (e, f) h

  pub opened-same : opens? b ≡ false → closes? b ≡ false → n ≡ opened n b
  unfolding opened
  opened-same e f = rw (e, f)

  pub opened-le : opened n b ≤ n + 1
  unfolding opened
  opened-le = go (opens? b) (closes? b)
    where
      go : (c d : Bool) → cond c (suc n) (cond d (n - 1) n) ≤ n + 1
      go true d = omega arith
      go false true = omega arith
      go false false = omega arith

-- ── bytes that are no brackets ──

-- a byte that is a blank or a digit
plain_passes : (b : ℕ) (n : ℕ) (w : List ℕ) → opens? b ≡ false → closes? b ≡ false → closing n (b ∷ w) ≡ closing n w
unfolding closing ends? opened
plain_passes b n w o c = rw (c, o) (never (eqb n 0))
  where
    never : (e : Bool) → cond (e && false) (b ∷ w) (closing n w) ≡ closing n w
    never true = refl
    never false = refl

blank_plain : (b : ℕ) → blank b ≡ true → (opens? b ≡ false) × (closes? b ≡ false)
unfolding blank opens? closes?
blank_plain b e = go (eqb b 32) (eqb b 10) (eqb b 13) refl refl refl e
  where
    both : (k : ℕ) → b ≡ k → (opens? k ≡ false) × (closes? k ≡ false) → (opens? b ≡ false) × (closes? b ≡ false)
    both k p h = subst (λ x. (opens? x ≡ false) × (closes? x ≡ false)) (sym p) h

    go : (x y z : Bool) → eqb b 32 ≡ x → eqb b 10 ≡ y → eqb b 13 ≡ z → (x || (y || z)) ≡ true
        → (opens? b ≡ false) × (closes? b ≡ false)
    go true y z p q r h = both 32 (eqb-true b 32 p) (refl, refl)
    go false true z p q r h = both 10 (eqb-true b 10 q) (refl, refl)
    go false false true p q r h = both 13 (eqb-true b 13 r) (refl, refl)
    go false false false p q r h = absurd (false≢true h)

pass_blanks : (n : ℕ) (w : List ℕ) → closing n w ≡ closing n (drop (blanks w) w)
unfolding blanks
pass_blanks n [] = refl
pass_blanks n (b ∷ w) = go (blank b) refl (pass_blanks n w)
  where
    go : (c : Bool) → blank b ≡ c → closing n w ≡ closing n (drop (blanks w) w)
        → closing n (b ∷ w) ≡ closing n (drop (cond c (suc (blanks w)) 0) (b ∷ w))
    go true e h = let p = blank_plain b e in plain_passes b n w p.0 p.1 ∙ h
    go false e h = refl

digit_plain : (b : ℕ) → is_digit b ≡ true → (opens? b ≡ false) × (closes? b ≡ false)
unfolding opens? closes?
digit_plain b e =
    let h = digit_range b e in (
      rw (ne_eqb b 40 (λ p. omega arith), ne_eqb b 91 (λ p. omega arith), ne_eqb b 123 (λ p. omega arith)),
      rw (ne_eqb b 41 (λ p. omega arith), ne_eqb b 93 (λ p. omega arith), ne_eqb b 125 (λ p. omega arith)),
    )

pass_digits : (n : ℕ) (w : List ℕ) → closing n w ≡ closing n (drop (digits w) w)
unfolding digits
pass_digits n [] = refl
pass_digits n (b ∷ w) = go (is_digit b) refl (pass_digits n w)
  where
    go : (c : Bool) → is_digit b ≡ c → closing n w ≡ closing n (drop (digits w) w)
        → closing n (b ∷ w) ≡ closing n (drop (cond c (suc (digits w)) 0) (b ∷ w))
    go true e h = let p = digit_plain b e in plain_passes b n w p.0 p.1 ∙ h
    go false e h = refl

letter_plain : (l : Letter) → (opens? (letter l) ≡ false) × (closes? (letter l) ≡ false)
unfolding opens? closes? letter
letter_plain letC = (refl, refl)
letter_plain letQ = (refl, refl)
letter_plain letS = (refl, refl)

-- ── tokens ──

-- tokens that are passed where m brackets are open, and behind which n are
pub record Goes (m n : ℕ) (ts : Tokens) : Type 0 where
  pub on : (us : Tokens) (w : List ℕ) → Text (ts ++ us) w
      → (v : List ℕ) × Text us v × (closing m w ≡ closing n v)

-- tokens that close what they open
abbrev pub Even : Tokens → Type 0
Even ts = (n : ℕ) → Goes n n ts

goes_then : {l m n : ℕ} {a b : Tokens} → Goes l m a → Goes m n b → Goes l n (a ++ b)
goes_then {l} {m} {n} {a} {b} f g =
    record {
      on =
          λ us w t. let x = f.on (b ++ us) w (subst (λ u. Text u w) (append_assoc a b us) t) in
          let y = g.on us x.0 x.1 in
          (y.0, y.1, x.2 ∙ y.2);
    }

even_none : Even []
even_none n = record { on = λ us w t. (w, t, refl) }

even_then : {a b : Tokens} → Even a → Even b → Even (a ++ b)
even_then f g n = goes_then (f n) (g n)

-- a sign, as its bytes go
goes_sign : (k : Sign) (m n : ℕ) → ((v : List ℕ) → closing m (sign_bytes k ++ v) ≡ closing n v) → Goes m n (sign₁ k)
unfolding bytes_of
goes_sign k m n h =
    record {
      on = λ us w t. let x = text_token t in (x.0, x.2, pass_blanks m w ∙ ap (closing m) x.1 ∙ h x.0);
    }

even_name : (l : Letter) (k : ℕ) → Even (name₁ l k)
even_name l k n =
    record {
      on =
          λ us w t. let x = text_name w l k t in
          let u = drop (blanks w) w in (
            drop (digits (drop 1 u)) (drop 1 u),
            x.1,
            pass_blanks n w ∙ first u (peek_name l k t) ∙ pass_digits n (drop 1 u),
          );
    }
  where
    first : (u : List ℕ) → get_or u 0 0 ≡ letter l → closing n u ≡ closing n (drop 1 u)
    first [] e = refl
    first (b ∷ u) e =
        let p = letter_plain l in
        plain_passes b n u (ap opens? e ∙ p.0) (ap closes? e ∙ p.1)

opens-passes : (b n : ℕ) (w : List ℕ) → opens? b ≡ true → closes? b ≡ false → closing n (b ∷ w) ≡ closing (suc n) w
unfolding closing ends? opened
opens-passes b n w o c = rw (c, o) (never (eqb n 0))
  where
    never : (e : Bool) → cond (e && false) (b ∷ w) (closing (suc n) w) ≡ closing (suc n) w
    never true = refl
    never false = refl

closes-passes : (b n : ℕ) (w : List ℕ) → opens? b ≡ false → closes? b ≡ true → closing (suc n) (b ∷ w) ≡ closing n w
unfolding closing ends? opened
closes-passes b n w o c =
    let z : suc n - 1 ≡ n = omega arith in
    rw (c, o, ne_eqb (suc n) 0 (λ p. omega arith)) (ap (λ k. closing k w) z)

open_goes : (n : ℕ) → Goes n (suc n) (sign₁ lpar) × Goes n (suc n) (sign₁ lbrace) × Goes n (suc n) (sign₁ lsq)
unfolding sign_bytes opens? closes?
open_goes n = (
  goes_sign lpar n (suc n) (λ v. opens-passes 40 n v refl refl),
  goes_sign lbrace n (suc n) (λ v. opens-passes 123 n v refl refl),
  goes_sign lsq n (suc n) (λ v. opens-passes 91 n v refl refl),
)

close-goes : (n : ℕ) → Goes (suc n) n (sign₁ rpar) × Goes (suc n) n (sign₁ rbrace) × Goes (suc n) n (sign₁ rsq)
unfolding sign_bytes opens? closes?
close-goes n = (
  goes_sign rpar (suc n) n (λ v. closes-passes 41 n v refl refl),
  goes_sign rbrace (suc n) n (λ v. closes-passes 125 n v refl refl),
  goes_sign rsq (suc n) n (λ v. closes-passes 93 n v refl refl),
)

-- in braces
even_braces : {a : Tokens} → Even a → Even (sign₁ lbrace ++ (a ++ sign₁ rbrace))
even_braces f n = goes_then (open_goes n).1 (goes_then (f (suc n)) (close-goes n).1)

-- ── each form ──

even_comma : Even (sign₁ comma)
unfolding sign_bytes opens? closes?
even_comma n = goes_sign comma n n (λ v. plain_passes 44 n v refl refl)

even_bar : Even (sign₁ bar)
unfolding sign_bytes opens? closes?
even_bar n = goes_sign bar n n (λ v. plain_passes 124 n v refl refl)

even_slash : Even (sign₁ slash)
unfolding sign_bytes opens? closes?
even_slash n = goes_sign slash n n (λ v. plain_passes 47 n v refl refl)

even_amp : Even (sign₁ amp)
unfolding sign_bytes opens? closes?
even_amp n = goes_sign amp n n (λ v. plain_passes 38 n v refl refl)

even_minus : Even (sign₁ minus)
unfolding sign_bytes opens? closes?
even_minus n = goes_sign minus n n (λ v. plain_passes 45 n v refl refl)

even_dec : Even (sign₁ wordDec)
unfolding sign_bytes opens? closes?
even_dec n =
    goes_sign wordDec n n
    (λ v. plain_passes 68 n _ refl refl ∙ plain_passes 101 n _ refl refl ∙ plain_passes 99 n v refl refl)

even_by : Even (sign₁ wordBy)
unfolding sign_bytes opens? closes?
even_by n = goes_sign wordBy n n (λ v. plain_passes 98 n _ refl refl ∙ plain_passes 121 n v refl refl)

even_names : (l : Letter) (ks : OneOrMore ℕ) → Even (of_names l ks)
unfolding of_names
even_names l (one k) = even_name l k
even_names l (ks ▸ k) = even_then (even_names l ks) (even_then even_comma (even_name l k))

even_set : (x : Signals) → Even (of_set x)
unfolding of_set
even_set none = even_braces even_none
even_set (some ks) = even_braces (even_names letS ks)

even_optional : (x : Option Signals) → Even (of_optional x)
unfolding of_optional
even_optional none = even_none
even_optional (some x) = even_set x

even_literal : (g : Literal) → Even (of_literal g)
unfolding of_literal
even_literal (needed k) = even_name letS k
even_literal (barred k) = even_then even_minus (even_name letS k)

even_literals : (gs : OneOrMore Literal) → Even (of_literals gs)
unfolding of_literals
even_literals (one g) = even_literal g
even_literals (gs ▸ g) = even_then (even_literals gs) (even_then even_amp (even_literal g))

even_guard : (g : Option (OneOrMore Literal)) → Even (of_guard g)
unfolding of_guard
even_guard none = even_none
even_guard (some gs) = even_literals gs

even_transition : (t : Transition) → Even (of_transition t)
unfolding of_transition
even_transition t n =
    goes_then (open_goes n).0
    (goes_then (even_name letQ t.from (suc n))
    (goes_then (even_comma (suc n))
    (goes_then (even_name letQ t.to (suc n))
    (goes_then (even_comma (suc n))
    (goes_then (even_guard t.guard (suc n))
    (goes_then (even_slash (suc n)) (goes_then (even_set t.action (suc n)) (close-goes n).0)))))))

even_transition_list : (ts : OneOrMore Transition) → Even (of_transition_list ts)
unfolding of_transition_list
even_transition_list (one t) = even_transition t
even_transition_list (ts ▸ t) = even_then (even_transition_list ts) (even_then even_comma (even_transition t))

even_transitions : (ts : Option (OneOrMore Transition)) → Even (of_transitions ts)
unfolding of_transitions
even_transitions none = even_braces even_none
even_transitions (some ts) = even_braces (even_transition_list ts)

even_extra : (x : Option Signals) → Even (of_extra x)
unfolding of_extra
even_extra none = even_none
even_extra (some x) = even_then even_comma (even_set x)

-- a heading leaves its round bracket open
goes_heading : (h : Heading) (n : ℕ) → Goes n (suc n) (of_heading h)
unfolding of_heading
goes_heading h n =
    goes_then (open_goes n).0
    (goes_then (even_name letC h.name (suc n))
    (goes_then (even_comma (suc n))
    (goes_then (open_goes (suc n)).1
    (goes_then (even_names letQ h.states (suc (suc n)))
    (goes_then (close-goes (suc n)).1
    (goes_then (even_comma (suc n))
    (goes_then (even_name letQ h.initial (suc n))
    (goes_then (even_comma (suc n)) (even_set h.feedback (suc n))))))))))

even_sequential : (s : Sequential) → Even (of_sequential s)
unfolding of_sequential
even_sequential s n =
    goes_then (goes_heading s.heading n)
    (goes_then (even_comma (suc n))
    (goes_then (even_transitions s.transitions (suc n))
    (goes_then (even_extra s.extra (suc n)) (close-goes n).0)))

mutual
  unfolding of_single

  even_single : (t : Single) → Even (of_single t)
  even_single (sequential s) n = even_sequential s n
  even_single (decomposed s ps) n =
      goes_then (even_dec n)
      (goes_then (even_sequential s n) (goes_then (even_by n)
      (goes_then (open_goes n).1 (goes_then (even_slaves ps (suc n)) (close-goes n).1))))
  even_single (hidden x t y) n =
      goes_then (even_optional x n)
      (goes_then (open_goes n).2
      (goes_then (even_chart t (suc n)) (goes_then (close-goes n).2 (even_optional y n))))

  pub even_chart : (t : Chart) → Even (of_chart t)
  even_chart (single s) n = even_single s n
  even_chart (composed a x b) n =
      goes_then (even_part a n)
      (goes_then (even_bar n) (goes_then (even_set x n) (goes_then (even_bar n) (even_part b n))))

  even_part : (t : Chart) → Even (of_part t)
  even_part (single s) n = even_single s n
  even_part (composed a x b) n =
      goes_then (open_goes n).0
      (goes_then (even_part a (suc n))
      (goes_then (even_bar (suc n))
      (goes_then (even_set x (suc n))
      (goes_then (even_bar (suc n)) (goes_then (even_part b (suc n)) (close-goes n).0)))))

  pub even_slaves : (ps : Slaves) → Even (of_slaves ps)
  even_slaves (first_slave q t) n =
      goes_then (open_goes n).0
      (goes_then (even_name letQ q (suc n))
      (goes_then (even_comma (suc n)) (goes_then (even_chart t (suc n)) (close-goes n).0)))
  even_slaves (more_slaves ps q t) n =
      goes_then (even_slaves ps n)
      (goes_then (even_comma n)
      (goes_then (open_goes n).0
      (goes_then (even_name letQ q (suc n))
      (goes_then (even_comma (suc n)) (goes_then (even_chart t (suc n)) (close-goes n).0)))))

-- ── the bracket behind ──

-- a closing bracket is found where none is open
stops_text : {us : Tokens} {v : List ℕ} (k : Sign)
    → ((u : List ℕ) → closing 0 (sign_bytes k ++ u) ≡ sign_bytes k ++ u) → Text (sign k ∷ us) v
    → Text (sign k ∷ us) (closing 0 v)
unfolding bytes_of
stops_text {us} {v} k h t =
    let x = text_token t in
    subst (λ u. Text (sign k ∷ us) u) (sym (pass_blanks 0 v ∙ ap (closing 0) x.1 ∙ h x.0))
    (token_then (sign k) x.2)

close_of : (k : Sign) → ((u : List ℕ) → closing 0 (sign_bytes k ++ u) ≡ sign_bytes k ++ u) → (ts us : Tokens) → Even ts
    → (w : List ℕ) (at r : ℕ) → ClosesAt w at r → Text (ts ++ (sign k ∷ us)) (drop at w) → Text (sign k ∷ us) (drop r w)
close_of k h ts us e w at r c t =
    let x = (e 0).on (sign k ∷ us) (drop at w) t in
    subst (λ u. Text (sign k ∷ us) u) (sym (c.is ∙ x.2)) (stops_text k h x.1)

-- behind even tokens, a round bracket and a brace
pub close_par : (ts us : Tokens) → Even ts → (w : List ℕ) (at r : ℕ) → ClosesAt w at r
    → Text (ts ++ (sign rpar ∷ us)) (drop at w) → Text (sign rpar ∷ us) (drop r w)
unfolding closing sign_bytes closes? ends?
close_par = close_of rpar (λ u. refl)

pub close_brace : (ts us : Tokens) → Even ts → (w : List ℕ) (at r : ℕ) → ClosesAt w at r
    → Text (ts ++ (sign rbrace ∷ us)) (drop at w) → Text (sign rbrace ∷ us) (drop r w)
unfolding closing sign_bytes closes? ends?
close_brace = close_of rbrace (λ u. refl)
