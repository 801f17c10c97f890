-- Sequential charts as typed, if their records fit (`Fits`): states; transitions; the chart, whose records are the same
-- (`..-written`) and whose names are right (`..-named`).
use Rattle.std.specs.Prelude.{◌≡◌, Bool, ltb, eqb, length}
use Rattle.std.proofs.Math.Path.{refl, ap, ap₂}
use Rattle.std.proofs.Common.{sym, ◌∙◌, lt-ltb, eq-eqb, ne_eqb}
use Rattle.std.proofs.Math.Bool.{true, false, ◌&&◌, ◌||◌, not, cond}
use mathlib.Core.List.{List, [], ◌∷◌, ◌++◌, map}
use Prim.Native.Nat.{ℕ, zero, suc, ◌≤◌, ◌<◌}
use Rattle.std.proofs.Math.Decide.{dec_lt}
use native.Mathlib.Omega.{arith}
use Rattle.std.proofs.Math.ListN.{length-append}
use Rattle.layout.specs.declared.record.Head.{Head}
use Rattle.layout.specs.declared.record.Transition.{Transition as Record}
use Rattle.meaning.specs.Meaning.{Set, same}
use Rattle.meaning.specs.Meaning.{Chart as Part}
use Rattle.meaning.specs.Laws.Bools.{same_refl, same_≢}
use Rattle.agreement.specs.Every.{Every}
use Rattle.notation.specs.Syntax.{one}
use Rattle.reading.specs.Numbers.{named_states}
use Rattle.reading.specs.Names.{members_of, first, any, has, twice?, not_all?, signals?}
use Rattle.reading.specs.Names.{signal_of, transition?, sequential?, name_of}
use Rattle.reading.specs.Meant.{mask_of, set_of, optional_of, needed_in, barred_in, transition_for, transitions_in}
use Rattle.reading.specs.Meant.{head_for}
use Rattle.spelling.specs.Typed.{from_all, if_so, signals_of, or_left_out, literals, transition_of, others, states_of}
use Rattle.spelling.specs.Typed.{sequential_of}
use Rattle.spelling.specs.Fits.{FitsIn, Fits}
use Rattle.spelling.proofs.Laws.Lists.{followed-members, listed-members, followed-first, from_cong, chosen}
use Rattle.spelling.proofs.Laws.Lists.{chosen-has, chosen_once, numbers-named}
use Rattle.spelling.proofs.Laws.Sets.{set-written, set-named, optional_written, optional_named, needed_written}
use Rattle.spelling.proofs.Laws.Sets.{barred_written, literals-named}

-- ── states ──

module _ (C : Part) where
  pub states-written : members_of (states_of C) ≡ C.initial ∷ others C
  unfolding members_of
  states-written = followed-members (one C.initial) (others C)

  pub states-first : first (states_of C) ≡ C.initial
  unfolding first
  states-first = followed-first (one C.initial) (others C)

  abbrev other : ℕ → Bool
  other q = not (same q C.initial)

  others-chosen : others C ≡ chosen C.states other
  unfolding others
  others-chosen =
      from_cong C.states (λ q. cond (same q C.initial) [] (q ∷ [])) (λ q. if_so (other q) q)
      (λ q l. go (same q C.initial) q)
    where
      go : (b : Bool) (q : ℕ) → cond b [] (q ∷ []) ≡ if_so (not b) q
      go true q = refl
      go false q = refl

  others-has : (q : ℕ) → has (others C) q ≡ (ltb q C.states && other q)
  others-has q = ap (λ l. has l q) others-chosen ∙ chosen-has other C.states q

  -- how many of the first n are not the initial one
  others-before : (n : ℕ) → n ≤ C.initial → length (chosen n other) ≡ n
  unfolding from_all
  others-before zero l = refl
  others-before (suc n) l =
      length-append (chosen n other) (if_so (other n) n)
      ∙ rw (same_≢ n C.initial (λ e. omega arith)) (omega (arith, others-before n (omega arith)))

  others-length : (n : ℕ) → C.initial < n → suc (length (chosen n other)) ≡ n
  unfolding from_all
  others-length zero l = absurd (omega arith)
  others-length (suc n) l = go (dec_lt C.initial n) (others-length n)
    where
      go : Dec (C.initial < n) → (C.initial < n → suc (length (chosen n other)) ≡ n)
          → suc (length (chosen n other ++ if_so (other n) n)) ≡ suc n
      go (yes m) i =
          ap suc (length-append (chosen n other) (if_so (other n) n))
          ∙ rw (same_≢ n C.initial (λ e. omega arith)) (omega (arith, i m))
      go (no m) i =
          let e : n ≡ C.initial = omega arith in
          ap suc (length-append (chosen n other) (if_so (other n) n))
          ∙ rw (ap (λ k. same n k) (sym e) ∙ same_refl n) (omega (arith, others-before n (omega arith)))

module _ (C : Part) (h : Fits C) where
  pub states-has : (q : ℕ) → has (members_of (states_of C)) q ≡ ltb q C.states
  unfolding has any same
  states-has q =
      ap (λ l. has l q) (states-written C) ∙ ap (eqb C.initial q ||◌) (others-has C q)
      ∙ go (dec_lt q C.initial) (dec_lt C.initial q)
    where
      full : (b : Bool) → (b && true) ≡ b
      full true = refl
      full false = refl

      go : Dec (q < C.initial) → Dec (C.initial < q)
          → (eqb C.initial q || (ltb q C.states && not (eqb q C.initial))) ≡ ltb q C.states
      go (yes l) m = rw (ne_eqb C.initial q (λ e. omega arith), ne_eqb q C.initial (λ e. omega arith)) (full _)
      go (no l) (yes m) =
          rw (ne_eqb C.initial q (λ e. omega arith), ne_eqb q C.initial (λ e. omega arith)) (full _)
      go (no l) (no m) =
          let i = h.initial in
          rw (eq-eqb C.initial q (omega arith)) (sym (lt-ltb q C.states (omega arith)))

  pub states-length : length (members_of (states_of C)) ≡ C.states
  states-length =
      ap length (states-written C) ∙ ap (λ l. suc (length l)) (others-chosen C)
      ∙ others-length C C.states h.initial

  pub states-named : not_all? named_states (members_of (states_of C)) ≡ false
  unfolding twice?
  states-named = numbers-named named_states C.states (members_of (states_of C)) h.states once states-has
    where
      first_once : has (others C) C.initial ≡ false
      first_once =
          others-has C C.initial
          ∙ ap₂ ◌&&◌ (lt-ltb C.initial C.states h.initial) (ap not (same_refl C.initial))

      once : twice? (members_of (states_of C)) ≡ false
      once =
          ap twice? (states-written C)
          ∙ ap₂ ◌||◌ first_once (ap twice? (others-chosen C) ∙ chosen_once (other C) C.states)

-- ── transitions ──

-- t with other sets
abbrev with : Record → Set → Set → Set → Record
with t x y z = record { from = t.from; to = t.to; needed = x; barred = y; action = z }

pub transition-written : (n : ℕ) (t : Record) → FitsIn n t → transition_for (transition_of t) ≡ t
unfolding transition_for transition_of
transition-written n t h =
    let gs = listed-members (literals t.needed t.barred) in
    let a = ap (λ l. mask_of (needed_in l)) gs ∙ needed_written t.needed t.barred h.needed in
    let b = ap (λ l. mask_of (barred_in l)) gs ∙ barred_written t.needed t.barred h.barred in
    let c = set-written t.action h.action in
    ap₂ (λ x y. with t x y (set_of (signals_of t.action))) a b ∙ ap (with t t.needed t.barred) c

pub transition-named : (states : List ℕ) (n : ℕ) (t : Record) → ((q : ℕ) → has states q ≡ ltb q n) → FitsIn n t
    → transition? states (transition_of t) ≡ false
unfolding transition? transition_of
transition-named states n t e h =
    ap₂ ◌||◌ (ap not (e t.from ∙ lt-ltb t.from n h.from))
    (ap₂ ◌||◌ (ap not (e t.to ∙ lt-ltb t.to n h.to))
    (ap₂ ◌||◌
    (ap (λ l. signals? (map signal_of l)) (listed-members (literals t.needed t.barred))
    ∙ literals-named t.needed t.barred) (set-named t.action)))

-- ── a chart ──

module _ (c : ℕ) (C : Part) where
  pub name_written : name_of (sequential_of c C) ≡ c
  unfolding sequential_of
  name_written = refl

  lines : transitions_in (sequential_of c C) ≡ map transition_of C.transitions
  unfolding sequential_of
  lines = listed-members (map transition_of C.transitions)

  pub transitions_count : length (transitions_in (sequential_of c C)) ≡ length C.transitions
  transitions_count = ap length lines ∙ go C.transitions
    where
      go : (ts : List Record) → length (map transition_of ts) ≡ length ts
      go [] = refl
      go (t ∷ ts) = ap suc (go ts)

  module _ (h : Fits C) where
    pub transitions_written : map transition_for (transitions_in (sequential_of c C)) ≡ C.transitions
    transitions_written = ap (map transition_for) lines ∙ go C.transitions h.transitions
      where
        go : (ts : List Record) → Every (FitsIn C.states) ts → map transition_for (map transition_of ts) ≡ ts
        go [] e = refl
        go (t ∷ ts) e = ap₂ ◌∷◌ (transition-written C.states t e.0) (go ts e.1)

    transitions_named : any (transition? (members_of (states_of C))) (transitions_in (sequential_of c C)) ≡ false
    unfolding any
    transitions_named = ap (any (transition? (members_of (states_of C)))) lines ∙ go C.transitions h.transitions
      where
        go : (ts : List Record) → Every (FitsIn C.states) ts
            → any (transition? (members_of (states_of C))) (map transition_of ts) ≡ false
        go [] e = refl
        go (t ∷ ts) e =
            ap₂ ◌||◌ (transition-named (members_of (states_of C)) C.states t (states-has C h) e.0) (go ts e.1)

    -- a record of C with so many states and transitions, and with these sets
    abbrev with-sets : ℕ → ℕ → Set → Set → Head
    with-sets m n x y = record { states = m; initial = C.initial; transitions = n; feedback = x; extra = y }

    pub head-written : head_for (sequential_of c C)
        ≡ record {
          states = C.states;
          initial = C.initial;
          transitions = length C.transitions;
          feedback = C.feedback;
          extra = C.extra;
        }
    unfolding head_for sequential_of
    head-written =
        ap₂ (λ m n. with-sets m n (set_of (signals_of C.feedback)) (optional_of (or_left_out C.extra)))
        (states-length C h) transitions_count
        ∙ ap₂ (with-sets C.states (length C.transitions)) (set-written C.feedback h.feedback)
        (optional_written C.extra h.extra)

    pub sequential_named : sequential? (sequential_of c C) ≡ false
    unfolding sequential? sequential_of
    sequential_named =
        ap₂ ◌||◌ (states-named C h)
        (ap₂ ◌||◌ (ap not (ap (same C.initial) (states-first C) ∙ same_refl C.initial))
        (ap₂ ◌||◌ (set-named C.feedback)
        (ap₂ ◌||◌ transitions_named (optional_named C.extra))))
