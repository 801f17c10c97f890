-- Sets and guards as typed: read again they are the same (`..-written`), and each signal has a name (`..-named`).
use Rattle.std.specs.Prelude.{◌≡◌, Bool, ◌&&◌, cond, ℕ, ◌<◌, ◌^◌, ltb}
use Rattle.std.proofs.Math.Path.{refl, ap}
use Rattle.std.proofs.Common.{sym, ◌∙◌, arith, lt-ltb, le-ltb}
use Rattle.std.proofs.Math.Bool.{true, false}
use Rattle.std.proofs.Math.Option.{none, some}
use mathlib.Core.List.{List, [], ◌∷◌, ◌++◌, map, map-append}
use Rattle.std.proofs.Math.Decide.{dec_lt}
use Rattle.signals.specs.Mask.{bit}
use Rattle.signals.specs.Mask.Laws.{bit_high, ext}
use Rattle.meaning.specs.Numbers.{most_signals}
use Rattle.meaning.specs.Meaning.{Set, ∅, same}
use Rattle.meaning.specs.Laws.Bools.{same→≡}
use Rattle.meaning.specs.Check.{not_below}
use Rattle.notation.specs.Syntax.{Literal, needed, barred}
use Rattle.reading.specs.Numbers.{named_signals}
use Rattle.reading.specs.Names.{any, signals?, set?, optional?, signal_of}
use Rattle.reading.specs.Meant.{mask_of, set_of, optional_of, needed_in, barred_in}
use Rattle.reading.specs.Laws.Lists.{bit_mask}
use Rattle.spelling.specs.Typed.{if_so, members, signals_of, or_left_out, said_of, literals}
use Rattle.spelling.proofs.Laws.Lists.{listed-members, from-any, from_cong, from_each, chosen-has}

-- ── sets ──

abbrev In : ℕ → Bool
In n = not_below n named_signals

mask_members : (x : Set) → x < 2 ^ 64 → mask_of (members x) ≡ x
unfolding members
mask_members x h =
    ext (mask_of (members x)) x (λ n. bit_mask (members x) n ∙ chosen-has (bit x) most_signals n ∙ go n (dec_lt n 64))
  where
    go : (n : ℕ) → Dec (n < 64) → (ltb n most_signals && bit x n) ≡ bit x n
    go n (yes l) = rw (lt-ltb n 64 l)
    go n (no l) = rw (le-ltb n 64 (omega arith), bit_high 64 x n h (omega arith))

-- a signal below the limit, if it is there
so_named : (b : Bool) (n : ℕ) → n < 64 → any In (if_so b n) ≡ false
unfolding any
so_named true n l = rw (lt-ltb n 64 l)
so_named false n l = refl

pub set-written : (x : Set) → x < 2 ^ 64 → set_of (signals_of x) ≡ x
set-written x h = ap mask_of (listed-members (members x)) ∙ mask_members x h

pub set-named : (x : Set) → set? (signals_of x) ≡ false
unfolding set? signals? members
set-named x =
    ap (any In) (listed-members (members x))
    ∙ from-any In most_signals (λ n. if_so (bit x n) n) (λ n l. so_named (bit x n) n l)

pub optional_written : (x : Set) → x < 2 ^ 64 → optional_of (or_left_out x) ≡ x
unfolding optional_of
optional_written x h = go (same x ∅) refl
  where
    go : (b : Bool) → same x ∅ ≡ b → optional_of (cond b none (some (signals_of x))) ≡ x
    go true e = sym (same→≡ x ∅ e)
    go false e = set-written x h

pub optional_named : (x : Set) → optional? (or_left_out x) ≡ false
unfolding optional?
optional_named x = go (same x ∅)
  where
    go : (b : Bool) → optional? (cond b none (some (signals_of x))) ≡ false
    go true = refl
    go false = set-named x

-- ── guards ──

needed_append : (a b : List Literal) → needed_in (a ++ b) ≡ needed_in a ++ needed_in b
unfolding needed_in
needed_append [] b = refl
needed_append (needed n ∷ a) b = ap (n ∷◌) (needed_append a b)
needed_append (barred n ∷ a) b = needed_append a b

barred_append : (a b : List Literal) → barred_in (a ++ b) ≡ barred_in a ++ barred_in b
unfolding barred_in
barred_append [] b = refl
barred_append (needed n ∷ a) b = barred_append a b
barred_append (barred n ∷ a) b = ap (n ∷◌) (barred_append a b)

module _ (x y : Set) where
  needed_members : needed_in (literals x y) ≡ members x
  unfolding literals members needed_in
  needed_members =
      from_each needed_in refl needed_append most_signals (said_of x y)
      ∙ from_cong most_signals (λ n. needed_in (said_of x y n)) (λ n. if_so (bit x n) n)
      (λ n l. go (bit x n) (bit y n) n)
    where
      go : (a b : Bool) (n : ℕ) → needed_in (if_so a (needed n) ++ if_so b (barred n)) ≡ if_so a n
      go true true n = refl
      go true false n = refl
      go false true n = refl
      go false false n = refl

  barred_members : barred_in (literals x y) ≡ members y
  unfolding literals members barred_in
  barred_members =
      from_each barred_in refl barred_append most_signals (said_of x y)
      ∙ from_cong most_signals (λ n. barred_in (said_of x y n)) (λ n. if_so (bit y n) n)
      (λ n l. go (bit x n) (bit y n) n)
    where
      go : (a b : Bool) (n : ℕ) → barred_in (if_so a (needed n) ++ if_so b (barred n)) ≡ if_so b n
      go true true n = refl
      go true false n = refl
      go false true n = refl
      go false false n = refl

  pub needed_written : x < 2 ^ 64 → mask_of (needed_in (literals x y)) ≡ x
  needed_written h = ap mask_of needed_members ∙ mask_members x h

  pub barred_written : y < 2 ^ 64 → mask_of (barred_in (literals x y)) ≡ y
  barred_written h = ap mask_of barred_members ∙ mask_members y h

  pub literals-named : signals? (map signal_of (literals x y)) ≡ false
  unfolding signals? literals signal_of any
  literals-named =
      ap (any In) (from_each (map signal_of) refl (map-append signal_of) most_signals (said_of x y))
      ∙ from-any In most_signals (λ n. map signal_of (said_of x y n)) (λ n l. go (bit x n) (bit y n) n l)
    where
      go : (a b : Bool) (n : ℕ) → n < 64 → any In (map signal_of (if_so a (needed n) ++ if_so b (barred n))) ≡ false
      go true true n l = rw (lt-ltb n 64 l)
      go true false n l = rw (lt-ltb n 64 l)
      go false true n l = rw (lt-ltb n 64 l)
      go false false n l = refl
