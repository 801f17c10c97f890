-- How many bytes the tokens of each form have at most. In this order: of tokens one after another; sums over lists;
-- lists with a byte between each two; names; sets and guards; a transition and a list of them; a sequential chart.
use Rattle.std.specs.Prelude.{◌≡◌, Bool, cond, length}
use Rattle.std.proofs.Math.Path.{refl}
use Rattle.std.proofs.Common.{◌∙◌, ap, length-append}
use Rattle.std.proofs.Math.Bool.{true, false}
use mathlib.Core.List.{List, [], ◌∷◌, ◌++◌, map}
use Rattle.std.proofs.Math.Option.{none, some}
use Prim.Native.Nat.{ℕ, zero, suc, ◌+◌, ◌*◌, ◌≤◌, ◌<◌}
use native.Mathlib.Omega.{arith}
use Rattle.signals.specs.Mask.{bit}
use Rattle.layout.specs.declared.record.Transition.{Transition as Record}
use Rattle.meaning.specs.Numbers.{most_signals, most_states}
use Rattle.meaning.specs.Sums.{tally, one as once}
use Rattle.meaning.specs.Sums.Laws.{tally_cong, tally_add, tally-le, tally_mono}
use Rattle.meaning.specs.Meaning.{Set, ∅, same, Chart}
use Rattle.meaning.specs.Laws.Bools.{same_comm}
use Rattle.line.specs.Line.{digit, digits, width_to, width, decimal}
use Rattle.line.specs.Line.Laws.{width-le, length-decimal}
use Rattle.notation.specs.Syntax.{OneOrMore, one, ◌▸◌, Literal, needed, barred, Transition}
use Rattle.notation.specs.Grammar.{rpar, rbrace, comma, slash, amp}
use Rattle.notation.specs.Grammar.{Letter, letC, letQ, letS, name, Tokens, sign₁, name₁}
use Rattle.notation.specs.Grammar.{of_names, of_set, of_literal, of_literals, of_guard, of_transition}
use Rattle.notation.specs.Grammar.{of_transition_list}
use Rattle.notation.specs.Grammar.{of_transitions}
use Rattle.notation.specs.Grammar.{of_heading, of_extra, of_sequential, sign_bytes, bytes_of, bytes_of_all}
use Rattle.whole.proofs.Laws.Double.{pick}
use Rattle.spelling.specs.Typed.{from_all, if_so, followed, listed, members, signals_of, or_left_out, said_of, literals}
use Rattle.spelling.specs.Typed.{transition_of}
use Rattle.spelling.specs.Typed.{others, states_of, sequential_of}

-- ── tokens ──

-- how many bytes tokens have
unfoldable pub size : Tokens → ℕ
size [] = 0
size (t ∷ ts) = length (bytes_of t) + size ts

pub size_is : (ts : Tokens) → length (bytes_of_all ts) ≡ size ts
unfolding size bytes_of_all
size_is [] = refl
size_is (t ∷ ts) = length-append (bytes_of t) (bytes_of_all ts) ∙ ap (λ z. length (bytes_of t) + z) (size_is ts)

pub size_++ : (ts us : Tokens) → size (ts ++ us) ≡ size ts + size us
unfolding size
size_++ [] us = omega arith
size_++ (t ∷ ts) us = let h = size_++ ts us in omega arith

-- ── sums over lists ──

module _ {A : Type 0} (f : A → ℕ) where
  unfoldable pub sum_of : List A → ℕ
  sum_of [] = 0
  sum_of (a ∷ l) = f a + sum_of l

  pub sum_++ : (k l : List A) → sum_of (k ++ l) ≡ sum_of k + sum_of l
  unfolding sum_of
  sum_++ [] l = omega arith
  sum_++ (a ∷ k) l = let h = sum_++ k l in omega arith

  pub sum-all : (n : ℕ) (g : ℕ → List A) → sum_of (from_all n g) ≡ tally n (λ i. sum_of (g i))
  unfolding sum_of from_all tally
  sum-all zero g = refl
  sum-all (suc n) g = let h = sum-all n g in let e = sum_++ (from_all n g) (g n) in omega arith

  pub sum_if : (b : Bool) (a : A) → sum_of (if_so b a) ≤ f a
  unfolding sum_of
  sum_if true a = omega arith
  sum_if false a = omega arith

-- ── lists with a byte between each two ──

-- what each takes with the byte behind it
abbrev pub with_next : {A : Type 0} → (A → Tokens) → A → ℕ
with_next each a = suc (size (each a))

module _ {A : Type 0} (all : OneOrMore A → Tokens) (each : A → Tokens)
    (first : (a : A) → size (all (one a)) ≡ size (each a))
    (more : (as' : OneOrMore A) (a : A) → size (all (as' ▸ a)) ≡ size (all as') + suc (size (each a))) where
  pub size-followed : (as' : OneOrMore A) (l : List A)
      → suc (size (all (followed as' l))) ≡ suc (size (all as')) + sum_of (with_next each) l
  unfolding followed sum_of
  size-followed as' [] = omega arith
  size-followed as' (a ∷ l) = let h = size-followed (as' ▸ a) l in let m = more as' a in omega arith

  pub size-first : (a : A) (l : List A) → suc (size (all (followed (one a) l))) ≡ sum_of (with_next each) (a ∷ l)
  unfolding sum_of
  size-first a l = let h = size-followed (one a) l in let e = first a in omega arith

-- ── names ──

abbrev pub name_size : Letter → ℕ → ℕ
name_size l n = length (bytes_of (name l n))

pub name_most : (l : Letter) (n : ℕ) → n < 100 → name_size l n ≤ 3
unfolding bytes_of
name_most l n h = let a = width-le 1 n h in let b = length-decimal n in omega arith

names-first : (l : Letter) (n : ℕ) → size (of_names l (one n)) ≡ size (name₁ l n)
unfolding of_names
names-first l n = refl

names_more : (l : Letter) (ns : OneOrMore ℕ) (n : ℕ)
    → size (of_names l (ns ▸ n)) ≡ size (of_names l ns) + suc (size (name₁ l n))
unfolding of_names size bytes_of sign_bytes
names_more l ns n = let h = size_++ (of_names l ns) (sign₁ comma ++ name₁ l n) in omega arith

-- a name and the comma behind it
abbrev name_next : Letter → ℕ → ℕ
name_next l = with_next (name₁ l)

-- ── sets ──

set-listed : (l : List ℕ) (m : ℕ) → 1 ≤ m → sum_of (name_next letS) l ≤ m → size (of_set (listed l)) ≤ suc m
unfolding of_set size bytes_of sign_bytes
set-listed [] m p h = omega arith
set-listed (a ∷ l) m p h =
    let e = size-first (of_names letS) (name₁ letS) (names-first letS) (names_more letS) a l in
    let q = size_++ (of_names letS (followed (one a) l)) (sign₁ rbrace) in omega arith

members-sum : (x : Set) → sum_of (name_next letS) (members x) ≤ 246
unfolding members
members-sum x =
    let e = sum-all (name_next letS) most_signals (λ n. if_so (bit x n) n) in
    let h = tally-le most_signals _ (name_next letS) (λ n _. sum_if (name_next letS) (bit x n) n) in
    let z : tally most_signals (name_next letS) ≡ 246 =
    unfold tally size bytes_of decimal digits digit width width_to in refl in omega arith

pub set_most : (x : Set) → size (of_set (signals_of x)) ≤ 247
set_most x = set-listed (members x) 246 (omega arith) (members-sum x)

-- ── guards ──

literals-first : (g : Literal) → size (of_literals (one g)) ≡ size (of_literal g)
unfolding of_literals
literals-first g = refl

literals-more : (gs : OneOrMore Literal) (g : Literal)
    → size (of_literals (gs ▸ g)) ≡ size (of_literals gs) + suc (size (of_literal g))
unfolding of_literals size bytes_of sign_bytes
literals-more gs g = let h = size_++ (of_literals gs) (sign₁ amp ++ of_literal g) in omega arith

-- a signal needed and barred
abbrev both_next : ℕ → ℕ
both_next n = with_next of_literal (needed n) + with_next of_literal (barred n)

literals-sum : (x y : Set) → sum_of (with_next of_literal) (literals x y) ≤ 556
unfolding literals
literals-sum x y =
    let e = sum-all (with_next of_literal) most_signals (said_of x y) in
    let h = tally-le most_signals (λ n. sum_of (with_next of_literal) (said_of x y n)) both_next
    (λ n _.
    let a = sum_++ (with_next of_literal) (if_so (bit x n) (needed n)) (if_so (bit y n) (barred n)) in
    let p = sum_if (with_next of_literal) (bit x n) (needed n) in
    let q = sum_if (with_next of_literal) (bit y n) (barred n) in omega arith) in
    let z : tally most_signals both_next ≡ 556 =
    unfold tally size of_literal bytes_of sign_bytes decimal digits digit width width_to in refl in omega arith

guard-listed : (l : List Literal) → sum_of (with_next of_literal) l ≤ 556 → size (of_guard (listed l)) ≤ 555
unfolding of_guard size
guard-listed [] h = omega arith
guard-listed (a ∷ l) h = let e = size-first of_literals of_literal literals-first literals-more a l in omega arith

pub guard_most : (x y : Set) → size (of_guard (listed (literals x y))) ≤ 555
guard_most x y = guard-listed (literals x y) (literals-sum x y)

-- ── transitions ──

pub transition_most : (t : Record) → t.from < 100 → t.to < 100 → size (of_transition (transition_of t)) ≤ 813
unfolding of_transition transition_of size bytes_of sign_bytes
transition_most t a b =
    let p = name_most letQ t.from a in let q = name_most letQ t.to b in
    let g = guard_most t.needed t.barred in let x = set_most t.action in
    let e =
    size_++ (of_guard (listed (literals t.needed t.barred)))
    (sign₁ slash ++ (of_set (signals_of t.action) ++ sign₁ rpar)) in
    let r = size_++ (of_set (signals_of t.action)) (sign₁ rpar) in omega arith

list_first : (t : Transition) → size (of_transition_list (one t)) ≡ size (of_transition t)
unfolding of_transition_list
list_first t = refl

list_more : (ts : OneOrMore Transition) (t : Transition)
    → size (of_transition_list (ts ▸ t)) ≡ size (of_transition_list ts) + suc (size (of_transition t))
unfolding of_transition_list size bytes_of sign_bytes
list_more ts t = let h = size_++ (of_transition_list ts) (sign₁ comma ++ of_transition t) in omega arith

-- transitions, each with the comma behind it
abbrev pub transitions_size : List Record → ℕ
transitions_size ts = sum_of (with_next of_transition) (map transition_of ts)

transitions_most : (l : List Transition) → size (of_transitions (listed l)) ≤ 2 + sum_of (with_next of_transition) l
unfolding of_transitions size bytes_of sign_bytes
transitions_most [] = omega arith
transitions_most (t ∷ l) =
    let e = size-first of_transition_list of_transition list_first list_more t l in
    let q = size_++ (of_transition_list (followed (one t) l)) (sign₁ rbrace) in omega arith

-- ── a sequential chart ──

-- state q, left out or counted
left_out : (b : Bool) (q : ℕ) → sum_of (name_next letQ) (cond b [] (q ∷ [])) + name_next letQ q * once b
    ≡ name_next letQ q
unfolding sum_of
left_out true q = omega arith
left_out false q = omega arith

module _ (C : Chart) (few : C.states ≤ most_states) (own : C.initial < C.states) where
  abbrev other : ℕ → List ℕ
  other q = cond (same q C.initial) [] (q ∷ [])

  -- the initial state and the others are all states
  states-sum : name_next letQ C.initial + sum_of (name_next letQ) (others C) ≡ tally C.states (name_next letQ)
  unfolding others
  states-sum =
      let e = sum-all (name_next letQ) C.states other in
      let p = pick C.states C.initial (name_next letQ) own in
      let a =
      tally_add C.states (λ q. sum_of (name_next letQ) (other q))
      (λ q. name_next letQ q * once (same C.initial q)) in
      let h =
      tally_cong C.states (λ q. sum_of (name_next letQ) (other q) + name_next letQ q * once (same C.initial q))
      (name_next letQ) (λ q _. rw (same_comm C.initial q) (left_out (same q C.initial) q)) in omega arith

  states_most : size (of_names letQ (states_of C)) ≤ 53
  unfolding sum_of
  states_most =
      let e = size-first (of_names letQ) (name₁ letQ) (names-first letQ) (names_more letQ) C.initial (others C) in
      let s = states-sum in let m = tally_mono C.states most_states (name_next letQ) few in
      let z : tally most_states (name_next letQ) ≡ 54 =
      unfold tally size bytes_of decimal digits digit width width_to in refl in omega arith

extra_most : (x : Set) → size (of_extra (or_left_out x)) ≤ 248
unfolding of_extra size bytes_of sign_bytes
extra_most x = go (same x ∅)
  where
    go : (b : Bool) → size (of_extra (cond b none (some (signals_of x)))) ≤ 248
    go true = omega arith
    go false = let h = set_most x in omega arith

module _ (c : ℕ) (C : Chart) (low : c < 100) (few : C.states ≤ most_states) (own : C.initial < C.states) where
  pub heading_most : size (of_heading (sequential_of c C).heading) ≤ 312
  unfolding of_heading sequential_of size bytes_of sign_bytes
  heading_most =
      let a = name_most letC c low in let b = name_most letQ C.initial (omega arith) in
      let s = states_most C few own in let x = set_most C.feedback in
      let q =
      size_++ (of_names letQ (states_of C))
      (sign₁ rbrace
      ++ (sign₁ comma ++ (name₁ letQ C.initial ++ (sign₁ comma ++ of_set (signals_of C.feedback))))) in
      omega arith

  pub sequential_most : size (of_sequential (sequential_of c C)) ≤ 564 + transitions_size C.transitions
  unfolding of_sequential sequential_of size bytes_of sign_bytes
  sequential_most =
      let s = sequential_of c C in
      let h = heading_most in let t = transitions_most (map transition_of C.transitions) in
      let x = extra_most C.extra in
      let p =
      size_++ (of_heading s.heading)
      (sign₁ comma ++ (of_transitions s.transitions ++ (of_extra s.extra ++ sign₁ rpar))) in
      let q = size_++ (of_transitions s.transitions) (of_extra s.extra ++ sign₁ rpar) in
      let r = size_++ (of_extra s.extra) (sign₁ rpar) in omega arith
