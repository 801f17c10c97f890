-- The steps at a place of a list, for the loops of the code.
use Rattle.std.specs.Prelude.{◌≡◌, true, false, List, ◌∷◌, ℕ, suc, ◌+◌, ◌*◌, ◌-◌, ◌≤◌, ◌<◌, min, length, get_or}
use Rattle.std.proofs.Math.Path.{refl, ap}
use Rattle.std.proofs.Common.{sym, ◌∙◌, add-one, arith, lt-ltb, le-ltb, drop_of_length-le, drop-cons, drop-drop}
use Rattle.std.proofs.Math.Decide.{dec_lt}
use Rattle.std.proofs.Math.ListN.{drop}
use Rattle.notation.specs.Grammar.{blank}
use Rattle.notation.specs.Reader.{is_digit}
use Rattle.tokens.specs.Tokens.{blanks, digits, cap, number_on}

module _ (w : List ℕ) (i : ℕ) where
  module _ (l : i < length w) where
    -- the byte at the place, and those behind it
    pub at : drop i w ≡ get_or w i 0 ∷ drop (i + 1) w
    at = drop-cons w i 0 l ∙ ap (λ k. get_or w i 0 ∷ drop k w) (sym (add-one i))

    pub blanks-more : blank (get_or w i 0) ≡ true → blanks (drop i w) ≡ suc (blanks (drop (i + 1) w))
    unfolding blanks
    blanks-more e = ap blanks at ∙ rw e

    pub blanks_stop : blank (get_or w i 0) ≡ false → blanks (drop i w) ≡ 0
    unfolding blanks
    blanks_stop e = ap blanks at ∙ rw e

    pub digits_stop : is_digit (get_or w i 0) ≡ false → digits (drop i w) ≡ 0
    unfolding digits
    digits_stop e = ap digits at ∙ rw e

    pub digits_more : is_digit (get_or w i 0) ≡ true
        → drop (digits (drop i w)) (drop i w) ≡ drop (digits (drop (i + 1) w)) (drop (i + 1) w)
    unfolding digits
    digits_more e = ap (λ u. drop (digits u) u) at ∙ rw e

    pub number_stops : (x : ℕ) → is_digit (get_or w i 0) ≡ false → number_on x (drop i w) ≡ x
    unfolding number_on
    number_stops x e = ap (number_on x) at ∙ rw e

    pub number_more : (x : ℕ) → is_digit (get_or w i 0) ≡ true
        → number_on x (drop i w) ≡ number_on (cap (x * 10 + (get_or w i 0 - 48))) (drop (i + 1) w)
    unfolding number_on
    number_more x e = ap (number_on x) at ∙ rw e

  module _ (l : length w ≤ i) where
    pub blanks-end : blanks (drop i w) ≡ 0
    blanks-end = ap blanks (drop_of_length-le w {i = i} l) ∙ unfold blanks in refl

    pub digits-end : digits (drop i w) ≡ 0
    digits-end = ap digits (drop_of_length-le w {i = i} l) ∙ unfold digits in refl

    pub number_ends : (x : ℕ) → number_on x (drop i w) ≡ x
    number_ends x = ap (number_on x) (drop_of_length-le w {i = i} l) ∙ unfold number_on in refl

  -- none to drop
  pub drop-none : (k : ℕ) → k ≡ 0 → drop i w ≡ drop k (drop i w)
  drop-none k e = sym (ap (λ j. drop j (drop i w)) e)

-- a sign of n bytes behind the blanks
module _ (w : List ℕ) (at i n : ℕ) (e : i ≡ at + blanks (drop at w)) where
  behind_is : drop (i + n) w ≡ drop n (drop (blanks (drop at w)) (drop at w))
  behind_is = sym (ap (drop n) (drop-drop (blanks (drop at w)) at w ∙ ap (λ k. drop k w) (sym e)) ∙ drop-drop n i w)

  pub behind_in : drop (i + n) w ≡ drop n (drop (blanks (drop at w)) (drop at w))
  behind_in = behind_is

  pub behind_out : length w ≤ i + n → drop (length w) w ≡ drop n (drop (blanks (drop at w)) (drop at w))
  behind_out l = drop_of_length-le w {i = length w} (omega arith) ∙ sym (drop_of_length-le w {i = i + n} l) ∙ behind_is

-- the first byte of the next token
module _ (w : List ℕ) (at i : ℕ) (e : i ≡ at + blanks (drop at w)) where
  from_token : drop (blanks (drop at w)) (drop at w) ≡ drop i w
  from_token = drop-drop (blanks (drop at w)) at w ∙ ap (λ k. drop k w) (sym e)

  pub peek_in : i < length w → get_or w i 0 ≡ get_or (drop (blanks (drop at w)) (drop at w)) 0 0
  peek_in l = sym (ap (λ u. get_or u 0 0) (from_token ∙ drop-cons w i 0 l))

  pub peek_out : length w ≤ i → 0 ≡ get_or (drop (blanks (drop at w)) (drop at w)) 0 0
  peek_out l = sym (ap (λ u. get_or u 0 0) (from_token ∙ drop_of_length-le w {i = i} l))

  -- if it is not 0, there is a token
  pub peek_some : (b : ℕ) → 0 < b → get_or (drop (blanks (drop at w)) (drop at w)) 0 0 ≡ b → i < length w
  peek_some b p h = go (dec_lt i (length w))
    where
      go : Dec (i < length w) → i < length w
      go (yes l) = l
      go (no l) = absurd (let z = peek_out (omega arith) in omega arith)

pub cap-below : (n : ℕ) → n < 1000 → n ≡ cap n
cap-below n h = unfold cap in rw (lt-ltb n 1000 h)

pub cap_above : (n : ℕ) → 1000 ≤ n → 1000 ≡ cap n
cap_above n h = unfold cap in rw (le-ltb n 1000 h)

pub cap-min : (n : ℕ) → min n 1000 ≡ cap n
cap-min n = go (dec_lt n 1000)
  where
    go : Dec (n < 1000) → min n 1000 ≡ cap n
    go (yes l) = omega (arith, cap-below n l)
    go (no l) = omega (arith, cap_above n (omega arith))
