-- Bytes that are laid as tokens lead the reader to where the tokens lead.
use Rattle.std.specs.Prelude.{◌≡◌, Bool, cond, List, [], ◌∷◌, ◌++◌, eqb}
use Rattle.std.proofs.Math.Path.{refl, ap, subst}
use Rattle.std.proofs.Common.{◌∙◌}
use Rattle.std.proofs.Math.Bool.{true, false}
use Rattle.std.proofs.Math.Option.{Option, none, some}
use Prim.Native.Nat.{ℕ, zero, suc, ◌+◌, ◌*◌, ◌-◌, ◌/◌, ◌%◌, ◌<◌}
use native.Mathlib.Omega.{arith}
use borrow.Author.Tests.{eqb-true, eq-eqb, ne_eqb, ltb-true, ltb-false}
use Rattle.std.proofs.Math.Dec.{ltb}
use Rattle.line.specs.Line.{decimal}
use Rattle.notation.specs.Grammar.{letter, bytes_of, Sign, Letter, Token, sign, name, Tokens}
use Rattle.notation.specs.Laws.Backward.{Laid, nothing, space, token}
use Rattle.notation.specs.Reader.{whole, first_in, State, part, Way, on, read, ways, final, first_byte, behind}
use Rattle.notation.specs.Reader.{is_digit, Position, gap, letter_read, number, onward, begin, step_gap, step}
use Rattle.notation.specs.Reader.{ending}
use Rattle.notation.specs.Laws.Reads.{take, Reads, start, next}
use Rattle.notation.specs.Laws.Decimal.{decimal-one, decimal-more, digit_is, blank-digit}
use Rattle.notation.specs.Laws.Signs.{sign_bytes_lem, head-blank, head-digit, letter-blank, letter-digit, apart}
use Rattle.notation.specs.Laws.Signs.{apart'}

unfoldable pub bound : Option Position → (Position → Option Position) → Option Position
bound none f = none
bound (some s) f = f s

-- the position behind the bytes w
unfoldable pub feed : Position → List ℕ → Option Position
feed s [] = some s
feed s (b ∷ w) = bound (step s b) (λ s'. feed s' w)

pub feed-append : (v w : List ℕ) (s : Position) → feed s (v ++ w) ≡ bound (feed s v) (λ s'. feed s' w)
unfolding feed bound
feed-append [] w s = refl
feed-append (b ∷ v) w s = go (step s b) (λ s'. feed-append v w s')
  where
    go : (o : Option Position) → ((s' : Position) → feed s' (v ++ w) ≡ bound (feed s' v) (λ s''. feed s'' w))
        → bound o (λ s'. feed s' (v ++ w)) ≡ bound (bound o (λ s'. feed s' v)) (λ s'. feed s' w)
    go none ih = refl
    go (some s') ih = ih s'

-- the position is behind a token, in the state p, whether it knows that the token ended or not
pub record Calm (s : Position) (p : State) : Type 0 where
  pub goes : (b : ℕ) → is_digit b ≡ false → step s b ≡ step_gap p b
  pub ends : ending s ≡ final p

calm-gap : (p : State) → Calm (gap p) p
unfolding step ending
calm-gap p = record { goes = λ b e. refl; ends = refl }

calm_number : (l : Letter) (n : ℕ) (f : ℕ → State) → Calm (number l n f) (f n)
unfolding step ending
calm_number l n f = record { goes = λ b e. rw e; ends = refl }

-- ── a sign ──

some_inj : {A : Type 0} {a b : A} → ◌≡◌ {A = Option A} (some a) (some b) → a ≡ b
some_inj e = cc

none_some : {A B : Type 0} {a : A} → ◌≡◌ {A = Option A} none (some a) → B
none_some {A} {B} {a} e = absurd (let z : ◌≡◌ {A = ℕ} 0 1 = cc in omega arith)

begin_sign : (ws : List Way) (k : Sign) (p' : State) → take ws (sign k) ≡ some p'
    → begin ws (first_byte k) ≡ some (onward (behind (first_byte k)) p')
unfolding take begin
begin_sign [] k p' e = none_some e
begin_sign (on k₀ p₀ ∷ ws) k p' e = go (eqb (first_byte k₀) (first_byte k)) refl e (begin_sign ws k p')
  where
    go : (c : Bool) → eqb (first_byte k₀) (first_byte k) ≡ c → cond c (some p₀) (take ws (sign k)) ≡ some p'
        → (take ws (sign k) ≡ some p' → begin ws (first_byte k) ≡ some (onward (behind (first_byte k)) p'))
        → cond c (some (onward (behind (first_byte k₀)) p₀)) (begin ws (first_byte k))
        ≡ some (onward (behind (first_byte k)) p')
    go true q e ih = let z = eqb-true (first_byte k₀) (first_byte k) q in let y = some_inj e in cc
    go false q e ih = ih e
begin_sign (read l f ∷ ws) k p' e = rw (apart l k) (begin_sign ws k p' e)

feed-onward : (cs : List ℕ) (p : State) → feed (onward cs p) cs ≡ some (gap p)
unfolding feed bound onward step
feed-onward [] p = refl
feed-onward (c ∷ cs) p = rw (eq-eqb c c refl) (feed-onward cs p)

-- ── a name ──

begin_name : (ws : List Way) (l : Letter) (n : ℕ) (p' : State) → take ws (name l n) ≡ some p'
    → (l' : Letter) × (f : ℕ → State) × (begin ws (letter l) ≡ some (letter_read l' f)) × (f n ≡ p')
unfolding take begin
begin_name [] l n p' e = none_some e
begin_name (on k p ∷ ws) l n p' e = let h = begin_name ws l n p' e in (h.0, h.1, rw (apart' l k) h.2, h.3)
begin_name (read l₀ f₀ ∷ ws) l n p' e = go (eqb (letter l₀) (letter l)) e (begin_name ws l n p')
  where
    go : (c : Bool) → cond c (some (f₀ n)) (take ws (name l n)) ≡ some p'
        → (take ws (name l n) ≡ some p'
        → (l' : Letter) × (f : ℕ → State) × (begin ws (letter l) ≡ some (letter_read l' f)) × (f n ≡ p'))
        → (l' : Letter) × (f : ℕ
        → State) × (cond c (some (letter_read l₀ f₀)) (begin ws (letter l)) ≡ some (letter_read l' f)) × (f n ≡ p')
    go true e ih = (l₀, f₀, refl, some_inj e)
    go false e ih = ih e

module _ (l : Letter) (f : ℕ → State) where
  one-digit : (n : ℕ) → 0 < n → n < 10 → step (letter_read l f) (48 + n) ≡ some (number l n f)
  unfolding step
  one-digit n h k =
      rw (
        ne_eqb (48 + n) 48 (λ e. omega arith),
        digit_is n k,
      ) (ap (λ x. some (number l x f)) (let z : 48 + n - 48 ≡ n = omega arith in z))

  more-digit : (n d : ℕ) → d < 10 → step (number l n f) (48 + d) ≡ some (number l (n * 10 + d) f)
  unfolding step
  more-digit n d k = rw (digit_is d k) (ap (λ x. some (number l (n * 10 + x) f)) (let z : 48 + d - 48 ≡ d =
      omega arith in z))

  digits_fed : (m n : ℕ) → n < m → 0 < n → feed (letter_read l f) (decimal n) ≡ some (number l n f)
  unfolding feed bound
  digits_fed zero n h k = absurd (omega arith)
  digits_fed (suc m) n h k = go (ltb n 10) refl (digits_fed m (n / 10))
    where
      go : (c : Bool) → ltb n 10 ≡ c
          → (n / 10 < m → 0 < n / 10 → feed (letter_read l f) (decimal (n / 10)) ≡ some (number l (n / 10) f))
          → feed (letter_read l f) (decimal n) ≡ some (number l n f)
      go true e ih = let z = ltb-true n 10 e in rw (decimal-one n z, one-digit n k z)
      go false e ih =
          let z = ltb-false n 10 e in
          ap (feed (letter_read l f)) (decimal-more n z)
          ∙ feed-append (decimal (n / 10)) ((48 + n % 10) ∷ []) (letter_read l f)
          ∙ rw (
            ih (omega arith) (omega arith),
            more-digit (n / 10) (n % 10) (omega arith),
          ) (ap (λ x. some (number l x f)) (let y : n / 10 * 10 + n % 10
          ≡ n = omega arith in y))

  number_fed : (n : ℕ) → (s : Position) × (feed (letter_read l f) (decimal n) ≡ some s) × Calm s (f n)
  number_fed zero = (gap (f 0), rw (decimal-one 0 (omega arith)) (unfold feed bound step in refl), calm-gap (f 0))
  number_fed (suc n) =
      (number l (suc n) f, digits_fed (suc (suc n)) (suc n) (omega arith) (omega arith), calm_number l (suc n) f)

-- ── a token, and all of them ──

token_fed : (t : Token) (s : Position) (p p' : State) → Calm s p → take (ways p) t ≡ some p'
    → (s' : Position) × (feed s (bytes_of t) ≡ some s') × Calm s' p'
unfolding bytes_of
token_fed (sign k) s p p' c e = (
  gap p',
  rw (sign_bytes_lem k) (unfold feed bound step_gap in
      rw (
        c.goes (first_byte k) (head-digit k),
        head-blank k,
        begin_sign (ways p) k p' e,
      ) (feed-onward (behind (first_byte k)) p')),
  calm-gap p',
)
token_fed (name l n) s p p' c e =
    let h = begin_name (ways p) l n p' e in let m = number_fed h.0 h.1 n in (
      m.0,
      (unfold feed bound step_gap in rw (c.goes (letter l) (letter-digit l), letter-blank l, h.2) m.1),
      subst (λ x. Calm m.0 x) h.3 m.2,
    )

pub laid_fed : {r : Tokens} {w : List ℕ} {p : State} → Laid r w → Reads r p
    → (s : Position) × (feed (gap (part (first_in whole))) w ≡ some s) × Calm s p
unfolding feed bound step_gap
laid_fed nothing start = (gap (part (first_in whole)), refl, calm-gap (part (first_in whole)))
laid_fed {p = p} (space {w = w} b e d) h =
    let m = laid_fed d h in (
      gap p,
      feed-append w (b ∷ []) (gap (part (first_in whole))) ∙ rw m.1 (rw (m.2.goes b (blank-digit b e), e)),
      calm-gap p,
    )
laid_fed (token {w = w} t d) (next {p = p} {p' = p'} h e) =
    let m = laid_fed d h in let k = token_fed t m.0 p p' m.2 e in
    (k.0, feed-append w (bytes_of t) (gap (part (first_in whole))) ∙ rw m.1 k.1, k.2)
