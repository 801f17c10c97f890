-- What each step meets in a text of tokens: `text_sign`, `text_name`.
use Rattle.std.specs.Prelude.{◌≡◌, refl, Bool, true, cond, List, [], ◌∷◌, ◌++◌, ℕ, zero, suc, ◌+◌, ◌*◌, ◌-◌, ◌/◌, ◌%◌}
use Rattle.std.specs.Prelude.{◌≤◌, ◌<◌, ltb, length}
use Rattle.std.proofs.Common.{sym, ◌∙◌}
use Rattle.std.proofs.Math.Path.{ap, subst}
use Rattle.std.proofs.Math.Bool.{false}
use native.Mathlib.Omega.{arith}
use borrow.Author.Tests.{ltb-true, ltb-false, lt-ltb, le-ltb}
use Rattle.std.proofs.Math.ListN.{drop}
use Rattle.std.proofs.Math.Seq.{drop_at}
use Rattle.notation.specs.Grammar.{Sign, Letter, Token, sign, name, Tokens, sign_bytes, bytes_of, Text, end, blank_then}
use Rattle.notation.specs.Grammar.{token_then}
use Rattle.line.specs.Line.{decimal}
use Rattle.notation.specs.Reader.{is_digit}
use Rattle.notation.specs.Laws.Decimal.{decimal-one, decimal-more, digit_is, blank-digit}
use Rattle.notation.specs.Laws.Signs.{sign_bytes_lem, head-blank, head-digit, letter-blank, letter-digit}
use Rattle.tokens.specs.declared.Name.{Name}
use Rattle.tokens.specs.Tokens.{blanks, digits, cap, number_on, NumberAt}

-- ── blanks ──

no_blanks : (t : Token) (w : List ℕ) → blanks (bytes_of t ++ w) ≡ 0
unfolding bytes_of blanks
no_blanks (sign k) w = rw (sign_bytes_lem k, head-blank k)
no_blanks (name l n) w = rw (letter-blank l)

-- behind the blanks stands the first token, and behind that the others
pub text_token : {ts : Tokens} {w : List ℕ} {t : Token} → Text (t ∷ ts) w
    → (v : List ℕ) × (drop (blanks w) w ≡ bytes_of t ++ v) × Text ts v
unfolding blanks
text_token (blank_then b e h) = let m = text_token h in (m.0, rw e m.1, m.2)
text_token (token_then {w = w} t h) = (w, rw (no_blanks t w), h)

-- ── digits ──

no_digits : (t : Token) (w : List ℕ) → digits (bytes_of t ++ w) ≡ 0
unfolding bytes_of digits
no_digits (sign k) w = rw (sign_bytes_lem k, head-digit k)
no_digits (name l n) w = rw (letter-digit l)

text_digits : {ts : Tokens} {w : List ℕ} → Text ts w → digits w ≡ 0
unfolding digits
text_digits end = refl
text_digits (blank_then b e h) = rw (blank-digit b e)
text_digits (token_then {w = w} t h) = no_digits t w

-- bytes that are all digits
unfoldable All : List ℕ → Type 0
All [] = Unit {0}
All (b ∷ w) = (is_digit b ≡ true) × All w

all_append : (a b : List ℕ) → All a → All b → All (a ++ b)
unfolding All
all_append [] b h k = k
all_append (d ∷ a) b h k = (h.0, all_append a b h.1 k)

digits_append : (a w : List ℕ) → All a → digits w ≡ 0 → digits (a ++ w) ≡ length a
unfolding All digits
digits_append [] w h e = e
digits_append (d ∷ a) w h e = rw h.0 (ap suc (digits_append a w h.1 e))

number_append : (a w : List ℕ) (x : ℕ) → All a → number_on x (a ++ w) ≡ number_on (number_on x a) w
unfolding All number_on
number_append [] w x h = refl
number_append (d ∷ a) w x h = rw h.0 (number_append a w (cap (x * 10 + (d - 48))) h.1)

number_stop : (w : List ℕ) (x : ℕ) → digits w ≡ 0 → number_on x w ≡ x
unfolding digits number_on
number_stop [] x e = refl
number_stop (b ∷ w) x e = go (is_digit b) e
  where
    go : (c : Bool) → cond c (suc (digits w)) 0 ≡ 0 → cond c (number_on (cap (x * 10 + (b - 48))) w) x ≡ x
    go true e = absurd (omega arith)
    go false e = refl

cap-small : (n : ℕ) → n < 1000 → cap n ≡ n
unfolding cap
cap-small n h = rw (lt-ltb n 1000 h)

cap_large : (n : ℕ) → 1000 ≤ n → cap n ≡ 1000
unfolding cap
cap_large n h = rw (le-ltb n 1000 h)

cap-more : (n d : ℕ) → cap (cap n * 10 + d) ≡ cap (n * 10 + d)
cap-more n d = go (ltb n 1000) refl
  where
    go : (c : Bool) → ltb n 1000 ≡ c → cap (cap n * 10 + d) ≡ cap (n * 10 + d)
    go true e = ap (λ x. cap (x * 10 + d)) (cap-small n (ltb-true n 1000 e))
    go false e = let h = ltb-false n 1000 e in
        ap (λ x. cap (x * 10 + d)) (cap_large n h) ∙ cap_large (1000 * 10 + d) (omega arith)
        ∙ sym (cap_large (n * 10 + d) (omega arith))

-- one digit
digit-on : (x d : ℕ) → d < 10 → number_on x ((48 + d) ∷ []) ≡ cap (x * 10 + d)
unfolding number_on
digit-on x d h = rw (digit_is d h) (ap (λ y. cap (x * 10 + y)) (let z : 48 + d - 48 ≡ d = omega arith in z))

record Read (n : ℕ) : Type 0 where
  all : All (decimal n)
  value : number_on 0 (decimal n) ≡ cap n

reads : (m n : ℕ) → n < m → Read n
reads zero n h = absurd (omega arith)
reads (suc m) n h = go (ltb n 10) refl (reads m (n / 10))
  where
    go : (c : Bool) → ltb n 10 ≡ c → (n / 10 < m → Read (n / 10)) → Read n
    go true e ih = let z = ltb-true n 10 e in
        record {
          all = rw (decimal-one n z) (unfold All in (digit_is n z, tt));
          value = ap (number_on 0) (decimal-one n z) ∙ digit-on 0 n z ∙ ap cap (let y : 0 * 10 + n ≡ n = omega arith in
              y);
        }
    go false e ih =
        let z = ltb-false n 10 e in let r = ih (omega arith) in
        record {
          all = rw (decimal-more n z) (all_append (decimal (n / 10)) ((48 + n % 10) ∷ []) r.all
              (unfold All in (digit_is (n % 10) (omega arith), tt)));
          value = ap (number_on 0) (decimal-more n z)
              ∙ number_append (decimal (n / 10)) ((48 + n % 10) ∷ []) 0 r.all
              ∙ ap (λ x. number_on x ((48 + n % 10) ∷ [])) r.value
              ∙ digit-on (cap (n / 10)) (n % 10) (omega arith) ∙ cap-more (n / 10) (n % 10)
              ∙ ap cap (let y : n / 10 * 10 + n % 10 ≡ n = omega arith in y);
        }

-- a number in digits, before bytes that do not begin with one
pub number_is : (n : ℕ) (w : List ℕ) → digits w ≡ 0
    → (number_on 0 (decimal n ++ w) ≡ cap n) × (digits (decimal n ++ w) ≡ length (decimal n))
number_is n w e = let r = reads (suc n) n (omega arith) in (
  number_append (decimal n) w 0 r.all ∙ number_stop w (number_on 0 (decimal n)) e
      ∙ r.value,
  digits_append (decimal n) w r.all e,
)

-- ── the steps ──

module _ (w : List ℕ) {ts : Tokens} where
  -- a sign: behind the blanks and the sign's bytes stand the other tokens
  pub text_sign : (k : Sign) → Text (sign k ∷ ts) w → Text ts (drop (length (sign_bytes k)) (drop (blanks w) w))
  unfolding bytes_of
  text_sign k h = let m = text_token h in
      subst (λ x. Text ts x) (sym (ap (drop (length (sign_bytes k))) m.1
      ∙ drop_at (sign_bytes k) m.0 (length (sign_bytes k)) refl)) m.2

  -- a name: behind the blanks and the letter stands its number, and behind its digits the other tokens
  pub text_name : (l : Letter) (n : ℕ) → Text (name l n ∷ ts) w
      → (number_on 0 (drop 1 (drop (blanks w) w)) ≡ cap n) × Text ts (drop (digits (drop 1 (drop (blanks w) w)))
      (drop 1 (drop (blanks w) w)))
  unfolding bytes_of
  text_name l n h =
      let m = text_token h in
      let e : drop 1 (drop (blanks w) w) ≡ decimal n ++ m.0 = ap (drop 1) m.1 in
      let d = number_is n m.0 (text_digits m.2) in (
        ap (number_on 0) e ∙ d.0,
        subst (λ x. Text ts x)
            (sym (ap (λ x. drop (digits x) x) e ∙ ap (λ k. drop k (decimal n ++ m.0)) d.1
            ∙ drop_at (decimal n) m.0 (length (decimal n)) refl)) m.2,
      )

-- ── what the code's answers say of a text that goes on with a token at a place ──

module _ (w : List ℕ) (at : ℕ) {ts : Tokens} where
  pub behind-right : (k : Sign) (r : ℕ) → Text (sign k ∷ ts) (drop at w)
      → drop r w ≡ drop (length (sign_bytes k)) (drop (blanks (drop at w)) (drop at w)) → Text ts (drop r w)
  behind-right k r h e = subst (λ x. Text ts x) (sym e) (text_sign (drop at w) k h)

  pub named-right : (l : Letter) (n : ℕ) (r : Name) → Text (name l n ∷ ts) (drop at w)
      → NumberAt (drop 1 (drop (blanks (drop at w)) (drop at w))) w r
      → (r.value ≡ cap n) × Text ts (drop r.next w)
  named-right l n r h e =
      let m = text_name (drop at w) l n h in
      (e.value ∙ m.0, subst (λ x. Text ts x) (sym e.behind) m.1)
