-- What is shown reads back as the same: a set as signals (`shown_reads`), a configuration with dots (`dotted_reads`).
-- In this order: each signal and each state by itself; parts that are joined split again; the signals of a set joined
-- are the set; the two theorems.
use Rattle.std.specs.Prelude.{◌≡◌, Bool, true, false, not, ◌&&◌, ◌||◌, cond, ℕ, zero, suc, ◌+◌, ◌^◌, ◌≤◌, ◌<◌, eqb}
use Rattle.std.specs.Prelude.{length}
use Rattle.std.proofs.Math.Path.{refl}
use Rattle.std.proofs.Common.{sym, ap, ◌∙◌, ⊎_elim, arith, lt-ltb, eq-eqb, ne_eqb, eqb-true, length-append}
use Rattle.std.proofs.lemmas.Bool.{false≢true, not-false, not-true, eqb-false}
use Rattle.std.proofs.Math.Bool.{or-false}
use mathlib.Core.List.{List, [], ◌∷◌, ◌++◌, map, append_assoc, append-nil}
use Rattle.std.proofs.Math.Decide.{dec_lt}
use Rattle.layout.specs.Le.{AllBytes}
use Rattle.signals.specs.Mask.{◌∪◌, bit, single}
use Rattle.signals.specs.Mask.Laws.{bit_union, bit-single, bit-none, bit_high, ext}
use Rattle.meaning.specs.Sums.{any_up_to}
use Rattle.meaning.specs.Sums.Laws.{any-never, below_suc}
use Rattle.meaning.specs.Laws.Bools.{and_l, and_r}
use Rattle.meaning.specs.Meaning.{Set, ∅, same, eq_list}
use Rattle.line.specs.Ascii.{ascii}
use Rattle.line.specs.Line.{digit, digits, width_to, width, decimal, behind, joined, dot, dotted}
use Rattle.typed.specs.Typed.{between, value_of, given, digit_on, digits_on, begun, number_of, in_front, split, comma}
use Rattle.typed.specs.Typed.{signal_of, signals_on, set_of, states_on, config_of, members_to, shown_signal, shown}
use Rattle.typed.specs.Typed.Laws.{before, before-none, map_snoc, listed}
use Rattle.std.specs.Prelude.{Option}
use Rattle.std.specs.Prelude.{Some, None}

-- ---- each signal and each state, by trying all

-- no character of a word is the separator
unfoldable clear : ℕ → List ℕ → Bool
clear separator [] = true
clear separator (b ∷ w) = not (same b separator) && clear separator w

unfoldable says : Option ℕ → ℕ → Bool
says (Some m) n = eqb m n
says None n = false

says_is : (r : Option ℕ) (n : ℕ) → says r n ≡ true → r ≡ Some n
unfolding says
says_is (Some m) n e = ap (λ (x : ℕ). Some x) (eqb-true m n e)
says_is None n e = absurd (false≢true e)

-- n is read of the word that shows it, which has no separator
unfoldable right : (List ℕ → Option ℕ) → (ℕ → List ℕ) → ℕ → ℕ → Bool
right read show separator n = says (read (show n)) n && clear separator (show n)

module _ (read : List ℕ → Option ℕ) (show : ℕ → List ℕ) (separator most : ℕ)
    (all : any_up_to most (λ n. not (right read show separator n)) ≡ false)
    (n : ℕ) (h : n < most) where
  is_right : right read show separator n ≡ true
  is_right = not-false _ (any-never most (λ k. not (right read show separator k)) all n h)

  reads : read (show n) ≡ Some n
  unfolding right
  reads = says_is _ n (and_l _ _ is_right)

  clears : clear separator (show n) ≡ true
  unfolding right
  clears = and_r (says (read (show n)) n) _ is_right

signals_right : any_up_to 64 (λ n. not (right signal_of shown_signal comma n)) ≡ false
unfolding any_up_to right says clear same between value_of digit_on digits_on begun number_of signal_of shown_signal
    digit digits width_to width decimal
signals_right = refl

states-right : any_up_to 256 (λ n. not (right (number_of 255) decimal dot n)) ≡ false
unfolding any_up_to right says clear same between value_of digit_on digits_on begun number_of digit digits width_to
    width decimal
states-right = refl

signal_reads : (n : ℕ) → n < 64 → signal_of (shown_signal n) ≡ Some n
signal_reads = reads signal_of shown_signal comma 64 signals_right

signal_clear : (n : ℕ) → n < 64 → clear comma (shown_signal n) ≡ true
signal_clear = clears signal_of shown_signal comma 64 signals_right

state_reads : (n : ℕ) → n < 256 → number_of 255 (decimal n) ≡ Some n
state_reads = reads (number_of 255) decimal dot 256 states-right

state_clear : (n : ℕ) → n < 256 → clear dot (decimal n) ≡ true
state_clear = clears (number_of 255) decimal dot 256 states-right

-- ---- parts that are joined

in_front-before : (b : ℕ) (p : List ℕ) (ps : List (List ℕ)) → in_front b (before p ps) ≡ before (b ∷ p) ps
unfolding in_front before
in_front-before b p [] = refl
in_front-before b p (q ∷ qs) = refl

split-clear : (separator : ℕ) (p w : List ℕ) → clear separator p ≡ true
    → split separator (p ++ w) ≡ before p (split separator w)
unfolding split clear
split-clear separator [] w h = sym (before-none (split separator w))
split-clear separator (b ∷ p) w h =
    rw (not-true (same b separator) (and_l _ _ h), split-clear separator p w (and_r (not (same b separator)) _ h))
    (in_front-before b p (split separator w))

module _ (separator : ℕ) where
  unfoldable Clear : List (List ℕ) → Type 0
  Clear [] = Unit {0}
  Clear (p ∷ ps) = (clear separator p ≡ true) × Clear ps

  split-behind : (p : List ℕ) (ps : List (List ℕ)) → clear separator p ≡ true → Clear ps
      → split separator (p ++ behind separator ps) ≡ p ∷ ps
  unfolding Clear behind split before same
  split-behind p [] h k = split-clear separator p [] h ∙ rw append-nil
  split-behind p (q ∷ qs) h k =
      split-clear separator p (separator ∷ q ++ behind separator qs) h
      ∙ rw (eq-eqb separator separator refl, append-nil, split-behind q qs k.0 k.1)

  clear_snoc : (ps : List (List ℕ)) (p : List ℕ) → Clear ps → clear separator p ≡ true → Clear (ps ++ (p ∷ []))
  unfolding Clear
  clear_snoc [] p k h = (h, tt)
  clear_snoc (q ∷ qs) p k h = (k.0, clear_snoc qs p k.1 h)

-- ---- the signals of a set, joined

-- those below n
unfoldable joined_to : ℕ → Set → Set
joined_to zero s = ∅
joined_to (suc n) s = cond (bit s n) (joined_to n s ∪ single n) (joined_to n s)

bit-with : (u n m : ℕ) → bit (u ∪ single n) m ≡ (bit u m || eqb n m)
bit-with u n m = bit_union m u (single n) ∙ ap (λ (t : Bool). bit u m || t) (bit-single n m)

joined-high : (n s m : ℕ) → n ≤ m → bit (joined_to n s) m ≡ false
unfolding joined_to
joined-high zero s m h = bit-none m
joined-high (suc n) s m h = go (bit s n) (joined-high n s m (omega arith))
  where
    go : (t : Bool) → bit (joined_to n s) m ≡ false → bit (cond t (joined_to n s ∪ single n) (joined_to n s)) m ≡ false
    go true e = rw (bit-with (joined_to n s) n m, e) (ne_eqb n m (λ z. omega arith))
    go false e = e

joined-low : (n s m : ℕ) → m < n → bit (joined_to n s) m ≡ bit s m
unfolding joined_to
joined-low zero s m h = absurd (omega arith)
joined-low (suc n) s m h =
    ⊎_elim (λ e. last e (bit s n) refl) (λ l. lower l (bit s n) (joined-low n s m l)) (below_suc m n h)
  where
    last : m ≡ n → (t : Bool) → bit s n ≡ t → bit (cond t (joined_to n s ∪ single n) (joined_to n s)) m ≡ bit s m
    last e true b = rw (e, bit-with (joined_to n s) n n, joined-high n s n (omega arith), eq-eqb n n refl, b)
    last e false b = rw (e, joined-high n s n (omega arith), b)

    lower : m < n → (t : Bool) → bit (joined_to n s) m ≡ bit s m
        → bit (cond t (joined_to n s ∪ single n) (joined_to n s)) m ≡ bit s m
    lower l true e = rw (bit-with (joined_to n s) n m, ne_eqb n m (λ z. omega arith), or-false) e
    lower l false e = e

joined-all : (s : ℕ) → s < 2 ^ 64 → joined_to 64 s ≡ s
joined-all s h = ext (joined_to 64 s) s (λ m. go m (dec_lt m 64))
  where
    go : (m : ℕ) → Dec (m < 64) → bit (joined_to 64 s) m ≡ bit s m
    go m (yes l) = joined-low 64 s m l
    go m (no f) = joined-high 64 s m (omega arith) ∙ sym (bit_high 64 s m h (omega arith))

-- one signal more is read
signals_snoc : (t : Set) (ps : List (List ℕ)) (p : List ℕ)
    → signals_on t (ps ++ (p ∷ []))
    ≡ given (signals_on t ps) (λ u. given (signal_of p) (λ n. Some (u ∪ single n)) None) None
unfolding signals_on
signals_snoc t [] p = refl
signals_snoc t (q ∷ qs) p = go (signal_of q) (λ n. signals_snoc (t ∪ single n) qs p)
  where
    go : (r : Option ℕ)
        → ((n : ℕ) → signals_on (t ∪ single n) (qs ++ (p ∷ []))
        ≡ given (signals_on (t ∪ single n) qs) (λ u. given (signal_of p) (λ n. Some (u ∪ single n)) None) None)
        → given r (λ n. signals_on (t ∪ single n) (qs ++ (p ∷ []))) None
        ≡ given (given r (λ n. signals_on (t ∪ single n) qs) None)
        (λ u. given (signal_of p) (λ n. Some (u ∪ single n)) None) None
    go (Some n) f = f n
    go None f = refl

members-clear : (n s : ℕ) → n ≤ 64 → Clear comma (map shown_signal (members_to n s))
unfolding members_to Clear
members-clear zero s h = tt
members-clear (suc n) s h = go (bit s n) (members-clear n s (omega arith))
  where
    go : (t : Bool) → Clear comma (map shown_signal (members_to n s))
        → Clear comma (map shown_signal (members_to n s ++ cond t (n ∷ []) []))
    go true k =
        rw (map_snoc shown_signal (members_to n s) n)
        (clear_snoc comma (map shown_signal (members_to n s)) (shown_signal n) k (signal_clear n (omega arith)))
    go false k = rw (append-nil (members_to n s)) k

members_read : (n s : ℕ) → n ≤ 64 → signals_on ∅ (map shown_signal (members_to n s)) ≡ Some (joined_to n s)
unfolding members_to joined_to signals_on
members_read zero s h = refl
members_read (suc n) s h = go (bit s n) (members_read n s (omega arith))
  where
    go : (t : Bool) → signals_on ∅ (map shown_signal (members_to n s)) ≡ Some (joined_to n s)
        → signals_on ∅ (map shown_signal (members_to n s ++ cond t (n ∷ []) []))
        ≡ Some (cond t (joined_to n s ∪ single n) (joined_to n s))
    go true e =
        rw (
          map_snoc shown_signal (members_to n s) n,
          signals_snoc ∅ (map shown_signal (members_to n s)) (shown_signal n),
          e,
          signal_reads n (omega arith),
        )
    go false e = rw (append-nil (members_to n s)) e

-- ---- a set

-- a list of signals is no `-` and begins with no `0x`
listed_reads : (xs : List ℕ) (s : ℕ) → (s ≡ 0 → ⊥) → Clear comma (map shown_signal xs)
    → signals_on ∅ (map shown_signal xs) ≡ Some s
    → set_of (listed xs) ≡ Some s
unfolding set_of eq_list same joined shown_signal signals_on Clear
listed_reads [] s h k e = let z : 0 ≡ s = cc in absurd (h (sym z))
listed_reads (x ∷ xs) s h k e =
    ap (signals_on ∅) (split-behind comma (shown_signal x) (map shown_signal xs) k.0 k.1) ∙ e

pub shown_reads : (s : ℕ) → s < 2 ^ 64 → set_of (shown s) ≡ Some s
unfolding shown set_of eq_list same
shown_reads s h = go (eqb s 0) refl
  where
    go : (t : Bool) → eqb s 0 ≡ t → set_of (cond t (ascii "-") (listed (members_to 64 s))) ≡ Some s
    go true e = ap (λ (x : ℕ). Some x) (sym (eqb-true s 0 e))
    go false e =
        listed_reads (members_to 64 s) s (eqb-false s 0 e) (members-clear 64 s (omega arith))
        (members_read 64 s (omega arith) ∙ ap (λ (x : ℕ). Some x) (joined-all s h))

-- ---- a configuration

states-clear : (cs : List ℕ) → AllBytes cs → Clear dot (map decimal cs)
unfolding Clear
states-clear [] h = tt
states-clear (c ∷ cs) h = (state_clear c (h 0), states-clear cs (λ i. h (suc i)))

states_read : (done cs : List ℕ) → length done + length cs ≤ 64 → AllBytes cs
    → states_on done (map decimal cs) ≡ done ++ cs
unfolding states_on
states_read done [] l h = sym (append-nil done)
states_read done (c ∷ cs) l h =
    rw (lt-ltb (length done) 64 (omega arith), state_reads c (h 0))
    (states_read (done ++ (c ∷ [])) cs (rw length-append (omega arith)) (λ i. h (suc i))
    ∙ append_assoc done (c ∷ []) cs)

pub dotted_reads : (cs : List ℕ) → 0 < length cs → length cs ≤ 64 → AllBytes cs → config_of (dotted cs) ≡ cs
unfolding config_of dotted joined
dotted_reads [] p l h = absurd (omega arith)
dotted_reads (c ∷ cs) p l h =
    ap (states_on []) (split-behind dot (decimal c) (map decimal cs) (state_clear c (h 0))
    (states-clear cs (λ i. h (suc i)))) ∙ states_read [] (c ∷ cs) (omega arith) h
