-- Laws of what is typed and shown, in this order: words that are alike; digits; how large a number can be; parts of a
-- word; signals written one after another; how long they are.
use Rattle.std.specs.Prelude.{◌≡◌, refl, Bool, true, false, cond, List, [], ◌∷◌, ◌++◌, map, ℕ, zero, suc, ◌+◌, ◌*◌, ◌≤◌}
use Rattle.std.specs.Prelude.{◌<◌, ltb, length, get_or, drop}
use Rattle.std.proofs.Common.{sym, ap, ◌∙◌, append_assoc, append-nil, add-one, arith, length-append}
use Rattle.std.proofs.lemmas.Bool.{false≢true}
use Prim.Native.Char.{code}
use borrow.Author.Tests.{ltb-false, leb-true, lt-ltb, le-ltb, le-leb, lt-leb, eq-eqb, ne_eqb, not-true}
use Rattle.std.proofs.Math.Seq.{drop-cons}
use Rattle.meaning.specs.Laws.Bools.{and_l, and_r}
use Rattle.meaning.specs.Laws.Bools.{not-true as false-if}
use Rattle.meaning.specs.Meaning.{same, eq_list}
use Rattle.line.specs.Line.{behind, joined}
use Rattle.line.specs.Line.Laws.{length-decimal, width-le}
use Rattle.signals.specs.Mask.{bit}
use Rattle.typed.specs.Parts.{next_signal}
use Rattle.typed.specs.Typed.{between, value_of, given, digit_on, digits_on, begun, number_of, signal_of, in_front}
use Rattle.typed.specs.Typed.{split, comma, members_to, shown_signal}
use Rattle.std.specs.Prelude.{Option}
use Rattle.std.specs.Prelude.{Some, None}

-- ---- words that are alike

pub alike : (a b : List ℕ) → eq_list a b ≡ true → length a ≡ length b
unfolding eq_list
alike [] [] e = refl
alike [] (y ∷ ys) e = absurd (false≢true e)
alike (x ∷ xs) [] e = absurd (false≢true e)
alike (x ∷ xs) (y ∷ ys) e = ap suc (alike xs ys (and_r (same x y) _ e))

pub unlike : (a b : List ℕ) → (length a ≡ length b → ⊥) → eq_list a b ≡ false
unlike a b h = false-if (λ e. h (alike a b e))

-- ---- digits

pub between-low : (lo hi b : ℕ) → between lo hi b ≡ true → lo ≤ b
unfolding between
between-low lo hi b e = ltb-false b lo (not-true _ (and_l _ _ e))

pub between_is : (lo hi b : ℕ) → lo ≤ b → b ≤ hi → between lo hi b ≡ true
unfolding between
between_is lo hi b p q = rw (le-ltb b lo p, le-leb b hi q)

pub between-below : (lo hi b : ℕ) → b < lo → between lo hi b ≡ false
unfolding between
between-below lo hi b p = rw (lt-ltb b lo p)

pub between_above : (lo hi b : ℕ) → lo ≤ b → hi < b → between lo hi b ≡ false
unfolding between
between_above lo hi b p q = rw (le-ltb b lo p, lt-leb b hi q)

-- a digit more: it is none of the base; it is one, and the number goes over the most; it is one, and does not
module _ (base most x b : ℕ) where
  pub digit-none : base ≤ value_of b → digit_on base most x b ≡ None
  unfolding digit_on
  digit-none h = rw (le-ltb (value_of b) base h)

  pub digit-over : value_of b < base → most < x * base + value_of b → digit_on base most x b ≡ None
  unfolding digit_on
  digit-over h k = rw (lt-ltb (value_of b) base h, lt-leb (x * base + value_of b) most k)

  pub digit_is : value_of b < base → x * base + value_of b ≤ most
      → digit_on base most x b ≡ Some (x * base + value_of b)
  unfolding digit_on
  digit_is h k = rw (lt-ltb (value_of b) base h, le-leb (x * base + value_of b) most k)

-- ---- how large a number can be

cond_is : (t : Bool) (n m : ℕ) (most : ℕ) → (t ≡ true → n ≤ most) → cond t (Some n) None ≡ Some m → m ≤ most
cond_is true n m most h e = let p : n ≡ m = cc in omega (arith, h refl)
cond_is false n m most h e = let z : ◌≡◌ {A = ℕ} 0 1 = cc in absurd (omega arith)

digit_most : (base most x b n : ℕ) → digit_on base most x b ≡ Some n → n ≤ most
unfolding digit_on
digit_most base most x b n e = cond_is _ _ n most (λ t. leb-true _ _ (and_r (ltb (value_of b) base) _ t)) e

digits_most : (base most x : ℕ) (w : List ℕ) (n : ℕ) → x ≤ most → digits_on base most x w ≡ Some n → n ≤ most
unfolding digits_on
digits_most base most x [] n h e = let p : x ≡ n = cc in omega arith
digits_most base most x (b ∷ w) n h e =
    go (digit_on base most x b) refl (λ y p q. digits_most base most y w n (digit_most base most x b y p) q) e
  where
    go : (r : Option ℕ) → digit_on base most x b ≡ r
        → ((y : ℕ) → digit_on base most x b ≡ Some y → digits_on base most y w ≡ Some n → n ≤ most)
        → given r (λ y. digits_on base most y w) None ≡ Some n → n ≤ most
    go (Some y) p f q = f y p q
    go None p f q = let z : ◌≡◌ {A = ℕ} 0 1 = cc in absurd (omega arith)

pub number_most : (most : ℕ) (w : List ℕ) (n : ℕ) → number_of most w ≡ Some n → n ≤ most
unfolding number_of
number_most most w n e = go (begun w) e
  where
    go : (t : Bool) → cond t (digits_on 10 most 0 w) None ≡ Some n → n ≤ most
    go true q = digits_most 10 most 0 w n (omega arith) q
    go false q = let z : ◌≡◌ {A = ℕ} 0 1 = cc in absurd (omega arith)

pub signal_most : (w : List ℕ) (n : ℕ) → signal_of w ≡ Some n → n ≤ 63
unfolding signal_of
signal_most [] n e = let z : ◌≡◌ {A = ℕ} 0 1 = cc in absurd (omega arith)
signal_most (b ∷ w) n e = go (same b (code "s")) e
  where
    go : (t : Bool) → cond t (number_of 63 w) None ≡ Some n → n ≤ 63
    go true q = number_most 63 w n q
    go false q = let z : ◌≡◌ {A = ℕ} 0 1 = cc in absurd (omega arith)

-- ---- parts of a word

-- characters in front of the first part
unfoldable pub before : List ℕ → List (List ℕ) → List (List ℕ)
before p [] = []
before p (q ∷ qs) = (p ++ q) ∷ qs

pub before-none : (ps : List (List ℕ)) → before [] ps ≡ ps
unfolding before
before-none [] = refl
before-none (p ∷ ps) = refl

before_more : (p : List ℕ) (b : ℕ) (ps : List (List ℕ)) → before p (in_front b ps) ≡ before (p ++ (b ∷ [])) ps
unfolding before in_front
before_more p b [] = refl
before_more p b (q ∷ qs) = rw (append_assoc p)

-- there is a first part
pub split_some : (separator : ℕ) (w : List ℕ) (P : List (List ℕ) → Type 0)
    → ((p : List ℕ) (ps : List (List ℕ)) → P (p ∷ ps)) → P (split separator w)
unfolding split in_front
split_some separator [] P f = f [] []
split_some separator (b ∷ w) P f =
    go (same b separator) (split_some separator w (λ ps. P (in_front b ps)) (λ p ps. f (b ∷ p) ps))
  where
    go : (t : Bool) → P (in_front b (split separator w))
        → P (cond t ([] ∷ split separator w) (in_front b (split separator w)))
    go true h = f [] (split separator w)
    go false h = h

module _ (separator : ℕ) (w : List ℕ) where
  -- at a separator a part ends
  pub split_here : (i : ℕ) → i < length w → get_or w i 0 ≡ separator
      → split separator (drop i w) ≡ [] ∷ split separator (drop (i + 1) w)
  unfolding split same
  split_here i h e = rw (add-one, drop-cons w i 0 h, eq-eqb _ _ e)

  -- any other character belongs to it
  pub split-on : (p : List ℕ) (i : ℕ) → i < length w → (get_or w i 0 ≡ separator → ⊥)
      → before p (split separator (drop i w)) ≡ before (p ++ (get_or w i 0 ∷ [])) (split separator (drop (i + 1) w))
  unfolding split same
  split-on p i h e =
      rw (add-one, drop-cons w i 0 h, ne_eqb _ _ e) (before_more p (get_or w i 0) (split separator (drop (suc i) w)))

-- ---- signals written one after another

behind_snoc : (b : ℕ) (ps : List (List ℕ)) (p : List ℕ) → behind b (ps ++ (p ∷ [])) ≡ behind b ps ++ (b ∷ p)
unfolding behind
behind_snoc b [] p = rw append-nil
behind_snoc b (q ∷ qs) p = rw (behind_snoc b qs p, append_assoc)

pub map_snoc : (f : ℕ → List ℕ) (xs : List ℕ) (x : ℕ) → map f (xs ++ (x ∷ [])) ≡ map f xs ++ (f x ∷ [])
map_snoc f [] x = refl
map_snoc f (y ∷ ys) x = rw (map_snoc f ys x)

-- the signals of a list, with commas between
abbrev pub listed : List ℕ → List ℕ
listed xs = joined comma (map shown_signal xs)

-- one signal more
pub listed_snoc : (xs : List ℕ) (n : ℕ)
    → listed (xs ++ (n ∷ [])) ≡ listed xs ++ (cond (same (length (listed xs)) 0) [] (comma ∷ []) ++ shown_signal n)
unfolding joined same behind shown_signal
listed_snoc [] n = rw append-nil
listed_snoc (x ∷ xs) n =
    ap (λ (ps : List (List ℕ)). shown_signal x ++ behind comma ps) (map_snoc shown_signal xs n)
    ∙ ap (λ (l : List ℕ). shown_signal x ++ l) (behind_snoc comma (map shown_signal xs) (shown_signal n))
    ∙ sym (append_assoc (shown_signal x) (behind comma (map shown_signal xs)) (comma ∷ shown_signal n))
    ∙ ap (λ (t : Bool). (shown_signal x ++ behind comma (map shown_signal xs))
    ++ (cond t [] (comma ∷ []) ++ shown_signal n)) (sym (ne_eqb _ 0 some))
  where
    some : length (shown_signal x ++ behind comma (map shown_signal xs)) ≡ 0 → ⊥
    some e = omega arith

-- the signals below n, and signal n if it is in the set
pub listed_next : (s n : ℕ)
    → listed (members_to (suc n) s) ≡ listed (members_to n s) ++ next_signal (length (listed (members_to n s))) s n
unfolding members_to next_signal
listed_next s n = go (bit s n)
  where
    go : (t : Bool)
        → listed (members_to n s ++ cond t (n ∷ []) [])
        ≡ listed (members_to n s)
        ++ cond t (cond (same (length (listed (members_to n s))) 0) [] (comma ∷ []) ++ shown_signal n) []
    go true = listed_snoc (members_to n s) n
    go false = rw (append-nil (members_to n s), append-nil (listed (members_to n s)))

-- ---- how long they are

signal_le : (n : ℕ) → n < 64 → length (shown_signal n) ≤ 3
unfolding shown_signal
signal_le n h = omega (arith, length-decimal n, width-le 1 n (omega arith))

pub next_le : (at s n : ℕ) → n < 64 → length (next_signal at s n) ≤ 4
unfolding next_signal
next_le at s n h = go (bit s n) (same at 0)
  where
    go : (t u : Bool) → length (cond t (cond u [] (comma ∷ []) ++ shown_signal n) []) ≤ 4
    go true true = omega (arith, signal_le n h)
    go true false = omega (arith, signal_le n h)
    go false u = omega arith

pub listed_le : (s n : ℕ) → n ≤ 64 → length (listed (members_to n s)) ≤ 4 * n
unfolding joined members_to
listed_le s zero h = omega arith
listed_le s (suc n) h =
    rw (listed_next s n, length-append)
    (omega (arith, listed_le s n (omega arith), next_le (length (listed (members_to n s))) s n (omega arith)))
