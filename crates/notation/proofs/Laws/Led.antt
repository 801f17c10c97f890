-- What the reader has read at each position: the tokens of its state, and the beginning of the next one.
use Rattle.std.specs.Prelude.{◌≡◌, Bool, cond, ℕ, ◌+◌, ◌*◌, ◌-◌, ◌<◌}
use Rattle.std.proofs.Math.Path.{refl, sym, ap}
use Rattle.std.proofs.Common.{◌∙◌, subst}
use Rattle.std.proofs.Math.Bool.{true, false}
use Rattle.std.proofs.Math.Option.{Option, none, some}
use mathlib.Core.List.{List, [], ◌∷◌, ◌++◌, append_assoc, append-nil}
use native.Mathlib.Omega.{arith}
use borrow.Author.Tests.{eqb-true, eqb-false}
use Rattle.std.proofs.Math.Dec.{eqb}
use Rattle.line.specs.Line.{decimal}
use Rattle.notation.specs.Grammar.{sign_bytes, letter, bytes_of, blank, Sign, Letter, sign, name, Tokens}
use Rattle.notation.specs.Laws.Backward.{Laid, space, token}
use Rattle.notation.specs.Reader.{State, Way, on, read, ways, first_byte, behind, is_digit, Position, gap, inside}
use Rattle.notation.specs.Reader.{letter_read, number, onward, begin, step_gap, step}
use Rattle.notation.proofs.Laws.Before.{before, Right, AllRight, ways-right}
use Rattle.notation.specs.Laws.Decimal.{decimal-one, decimal_snoc, digit_range}
use Rattle.notation.specs.Laws.Signs.{sign_bytes_lem}

pub record Inside (k : Sign) (p : State) (cs w : List ℕ) : Type 0 where
  pub done : List ℕ
  pub v : List ℕ
  pub r : Tokens
  pub laid : Laid r v
  pub is : w ≡ v ++ done
  pub adds : before p ≡ sign k ∷ r
  pub bytes : sign_bytes k ≡ done ++ cs

-- the name that is begun, its bytes so far
pub record Named (l : Letter) (f : ℕ → State) (done w : List ℕ) : Type 0 where
  pub v : List ℕ
  pub r : Tokens
  pub laid : Laid r v
  pub is : w ≡ v ++ (letter l ∷ done)
  pub adds : (n : ℕ) → before (f n) ≡ name l n ∷ r

-- the bytes w lead to the position
unfoldable pub Led : Position → List ℕ → Type 0
Led (gap p) w = Laid (before p) w
Led (inside c cs p) w = (k : Sign) × Inside k p (c ∷ cs) w
Led (letter_read l f) w = Named l f [] w
Led (number l n f) w = (0 < n) × Named l f (decimal n) w

unfoldable pub Holds : {A : Type 0} → (A → Type 0) → Option A → Type 0
Holds P none = Unit {0}
Holds P (some a) = P a

pub whole_sign : {k : Sign} {p : State} {w : List ℕ} → Inside k p [] w → Laid (before p) w
unfolding bytes_of
whole_sign {k} {p} {w} i =
    rw (i.adds, i.is) (subst (λ d. Laid (sign k ∷ i.r) (i.v ++ d)) (i.bytes
    ∙ append-nil i.done) (token (sign k) i.laid))

pub whole_name : {l : Letter} {f : ℕ → State} {w : List ℕ} (n : ℕ) → Named l f (decimal n) w → Laid (before (f n)) w
unfolding bytes_of
whole_name {l} {f} {w} n i = rw (i.adds n, i.is) (token (name l n) i.laid)

onward_led : (k : Sign) (p : State) (cs w : List ℕ) → Inside k p cs w → Led (onward cs p) w
unfolding Led onward
onward_led k p [] w i = whole_sign i
onward_led k p (c ∷ cs) w i = (k, i)

module _ (b : ℕ) (w : List ℕ) where
  begin_led : (p : State) (ws : List Way) → AllRight p ws → Laid (before p) w
      → Holds (λ s. Led s (w ++ (b ∷ []))) (begin ws b)
  unfolding begin Holds AllRight Right Led
  begin_led p [] h d = tt
  begin_led p (on k p' ∷ ws) h d = go (eqb (first_byte k) b) refl (begin_led p ws h.1 d)
    where
      go : (c : Bool) → eqb (first_byte k) b ≡ c → Holds (λ s. Led s (w ++ (b ∷ []))) (begin ws b)
          → Holds (λ s. Led s (w ++ (b ∷ []))) (cond c (some (onward (behind (first_byte k)) p')) (begin ws b))
      go true e ih =
          onward_led k p' (behind (first_byte k)) (w ++ (b ∷ []))
          (record {
            done = b ∷ [];
            v = w;
            r = before p;
            laid = d;
            is = refl;
            adds = h.0;
            bytes =
                sign_bytes_lem k ∙ ap (◌∷ behind (first_byte k)) (eqb-true (first_byte k) b e);
          })
      go false e ih = ih
  begin_led p (read l f ∷ ws) h d = go (eqb (letter l) b) refl (begin_led p ws h.1 d)
    where
      go : (c : Bool) → eqb (letter l) b ≡ c → Holds (λ s. Led s (w ++ (b ∷ []))) (begin ws b)
          → Holds (λ s. Led s (w ++ (b ∷ []))) (cond c (some (letter_read l f)) (begin ws b))
      go true e ih = record {
        v = w;
        r = before p;
        laid = d;
        is =
            ap (λ x. w ++ (x ∷ [])) (sym (eqb-true (letter l) b e));
        adds = h.0;
      }
      go false e ih = ih

  gap_led : (p : State) → Laid (before p) w → Holds (λ s. Led s (w ++ (b ∷ []))) (step_gap p b)
  unfolding step_gap Holds Led
  gap_led p d = go (blank b) refl
    where
      go : (c : Bool) → blank b ≡ c → Holds (λ s. Led s (w ++ (b ∷ []))) (cond c (some (gap p)) (begin (ways p) b))
      go true e = space b e d
      go false e = begin_led p (ways p) (ways-right p) d

  -- one more byte of a sign
  inside-more : (k : Sign) (p : State) (c : ℕ) (cs : List ℕ) → c ≡ b → Inside k p (c ∷ cs) w
      → Inside k p cs (w ++ (b ∷ []))
  inside-more k p c cs e i =
      record {
        done = i.done ++ (b ∷ []);
        v = i.v;
        r = i.r;
        laid = i.laid;
        is = ap (◌++ (b ∷ [])) i.is ∙ append_assoc i.v i.done (b ∷ []);
        adds = i.adds;
        bytes = i.bytes ∙ ap (λ x. i.done ++ (x ∷ cs)) e ∙ sym (append_assoc i.done (b ∷ []) cs);
      }

  -- one more byte of a name
  named_more : (l : Letter) (f : ℕ → State) (d d' : List ℕ) → d ++ (b ∷ []) ≡ d' → Named l f d w
      → Named l f d' (w ++ (b ∷ []))
  named_more l f d d' e i =
      record {
        v = i.v;
        r = i.r;
        laid = i.laid;
        is = ap (◌++ (b ∷ [])) i.is ∙ append_assoc i.v (letter l ∷ d) (b ∷ [])
            ∙ ap (λ x. i.v ++ (letter l ∷ x)) e;
        adds = i.adds;
      }

  pub step_led : (s : Position) → Led s w → Holds (λ s. Led s (w ++ (b ∷ []))) (step s b)
  unfolding step Holds Led
  step_led (gap p) d = gap_led p d
  step_led (inside c cs p) d = go (eqb c b) refl d
    where
      go : (x : Bool) → eqb c b ≡ x → (k : Sign) × Inside k p (c ∷ cs) w
          → Holds (λ s. Led s (w ++ (b ∷ []))) (cond x (some (onward cs p)) none)
      go true e i = onward_led i.0 p cs (w ++ (b ∷ [])) (inside-more i.0 p c cs (eqb-true c b e) i.1)
      go false e i = tt
  step_led (letter_read l f) d = go (eqb b 48) refl (is_digit b) refl d
    where
      go : (x : Bool) → eqb b 48 ≡ x → (y : Bool) → is_digit b ≡ y → Named l f [] w
          → Holds (λ s. Led s (w ++ (b ∷ []))) (cond x (some (gap (f 0))) (cond y (some (number l (b - 48) f)) none))
      go true e y q i =
          whole_name 0 (named_more l f [] (decimal 0) (ap (◌∷ []) (eqb-true b 48 e)
          ∙ sym (decimal-one 0 (omega arith))) i)
      go false e true q i =
          let h = digit_range b q in let n = eqb-false b 48 e in (
            omega arith,
            named_more l f [] (decimal (b - 48)) (ap (◌∷ []) (let z : b ≡ 48 + (b - 48) = omega arith in
                z) ∙ sym (decimal-one (b - 48) (omega arith))) i,
          )
      go false e false q i = tt
  step_led (number l n f) d = go (is_digit b) refl d
    where
      go : (y : Bool) → is_digit b ≡ y → (0 < n) × Named l f (decimal n) w
          → Holds (λ s. Led s (w ++ (b ∷ []))) (cond y (some (number l (n * 10 + (b - 48)) f)) (step_gap (f n) b))
      go true q i =
          let h = digit_range b q in let z = i.0 in (
            omega arith,
            named_more l f (decimal n) (decimal (n * 10 + (b - 48)))
                (ap (λ x. decimal n ++ (x ∷ [])) (let z : b ≡ 48 + (b - 48) = omega arith in
                z) ∙ sym (decimal_snoc n (b - 48) z (omega arith))) i.1,
          )
      go false q i = gap_led (f n) (whole_name n i.1)
