-- Laws of the file check, grouped under what they speak of: a test that is false; the first refusal that applies
-- (`first_of`); what a file that is not refused meets (`refusal_of`); what 3 gives (`counts?`); what 6 gives
-- (`charts?`);
-- that more than 8 transitions from a state are found as a walk goes, and that transitions lead to states of their
-- chart (`transitions?`). Those of 8 to 11 are in Check/Nodes.antt.
use Rattle.std.specs.Prelude.{◌≡◌, Bool, true, ◌||◌, not, ◌⊎◌, ℕ, zero, suc, ◌+◌, ◌≤◌, ◌<◌, eqb, length}
use Rattle.std.proofs.Math.Path.{refl}
use Rattle.std.proofs.Common.{sym, ◌∙◌, ap, true≢false, inl, inr, ⊎_elim, arith, lit<}
use Rattle.std.proofs.Math.Bool.{false}
use mathlib.Core.List.Memᴰ
use mathlib.Core.List.{List, [], ◌∷◌, ◌++◌, append-nil, Memᴰ}
use borrow.Author.Tests.{le-ltb, ltb-true, ltb-false, eq-eqb, ne_eqb, eqb-true, eqb-false, not-false, lt-ltb}
use Rattle.std.proofs.Math.Dec.{ltb}
use Rattle.layout.specs.Body.{head_at, transition_at, start_of, from, transitions_of}
use Rattle.layout.specs.declared.body.Shape.{Shape}
use Rattle.layout.specs.declared.record.Trailer.{Trailer}
use Rattle.layout.specs.declared.record.Transition.{Transition}
use Rattle.meaning.specs.Numbers.{most_charts, most_slaves, most_nodes, most_transitions, most_states, most_in_chart}
use Rattle.meaning.specs.Numbers.{most_from_state}
use Rattle.meaning.specs.Sums.{any_up_to, tally, one}
use Rattle.meaning.specs.Sums.Laws.{or_left, or_right, or_three, or_four, any-never, any-all, any_cong}
use Rattle.meaning.specs.Sums.Laws.{tally_mono}
use Rattle.meaning.specs.Meaning.{same}
use Rattle.meaning.specs.Laws.Bools.{same→≡}
use Rattle.meaning.specs.File.{end_of, trailer, body_of, shape_of, file_of}
use Rattle.meaning.specs.Check.{Test, first_of, differ, not_below, edition?, counts?, distance?, nonzero, zeros?}
use Rattle.meaning.specs.Check.{chart?, charts?, in_chart, ends?, leaving, transitions?, slaves?, nodes?, naming?}
use Rattle.meaning.specs.Check.{inside?, file_tests, refusal_of}

-- ── Bool ──

pub neither : (a b : Bool) → a ≡ false → b ≡ false → (a || b) ≡ false
neither true b p q = absurd (true≢false p)
neither false b p q = q

pub decided : (a : Bool) → (a ≡ true) ⊎ (a ≡ false)
decided true = inl refl
decided false = inr refl

-- two tests are equal if either passes where the other does
both_pass : (a b : Bool) → (a ≡ false → b ≡ false) → (b ≡ false → a ≡ false) → a ≡ b
both_pass true true h g = refl
both_pass true false h g = g refl
both_pass false b h g = sym (h refl)

-- ── a test that is false ──

pub below : (m n : ℕ) → not_below m n ≡ false → m < n
below m n h = ltb-true m n (not-false (ltb m n) h)

pub is_below : (m n : ℕ) → m < n → not_below m n ≡ false
is_below m n l = ap not (lt-ltb m n l)

pub alike : (m n : ℕ) → differ m n ≡ false → m ≡ n
alike m n h = same→≡ m n (not-false (same m n) h)

pub eq_or-not : (a b : ℕ) → (a ≡ b) ⊎ (a ≡ b → ⊥)
eq_or-not a b = ⊎_elim (λ e. inl (eqb-true a b e)) (λ e. inr (eqb-false a b e)) (decided (eqb a b))

-- ── first_of ──

pub first_of_here : (t : Test) (ts : List Test) → t.applies ≡ true → first_of (t ∷ ts) ≡ t.number
unfolding first_of
first_of_here t ts h = rw h

pub first_of-next : (t : Test) (ts : List Test) → t.applies ≡ false → first_of (t ∷ ts) ≡ first_of ts
unfolding first_of
first_of-next t ts h = rw h

pub first_of_[] : first_of [] ≡ 0
unfolding first_of
first_of_[] = refl

pub first_of_cong : (t : Test) (ts us : List Test) → first_of ts ≡ first_of us → first_of (t ∷ ts) ≡ first_of (t ∷ us)
unfolding first_of
first_of_cong t ts us h = rw h

-- a test that applies only where the one before it does
pub first_of_covered : (t u : Test) (ts : List Test) → (t.applies ≡ false → u.applies ≡ false)
    → first_of (t ∷ u ∷ ts) ≡ first_of (t ∷ ts)
first_of_covered t u ts h =
    ⊎_elim
    (λ (e : t.applies ≡ true). first_of_here t (u ∷ ts) e ∙ sym (first_of_here t ts e))
    (λ (e : t.applies ≡ false). first_of-next t (u ∷ ts) e ∙ first_of-next u ts (h e) ∙ sym (first_of-next t ts e))
    (decided t.applies)

-- no test has the number 0, which is success
abbrev pub Numbered : List Test → Type 0
Numbered [] = Unit
Numbered (t ∷ ts) = (0 < t.number) × Numbered ts

-- no test applies
abbrev pub Passes : List Test → Type 0
Passes [] = Unit
Passes (t ∷ ts) = (t.applies ≡ false) × Passes ts

pub first_of-passes : (ts : List Test) → Numbered ts → first_of ts ≡ 0 → Passes ts
unfolding first_of
first_of-passes [] n h = tt
first_of-passes (t ∷ ts) n h =
    ⊎_elim
    (λ (e : t.applies ≡ true). absurd (omega (arith, n.0, rw e at h)))
    (λ (e : t.applies ≡ false). (e, first_of-passes ts n.1 (rw e at h)))
    (decided t.applies)

-- what comes behind tests that pass, and behind tests that do not
pub first_of_++ : (ts us : List Test) → Passes ts → first_of (ts ++ us) ≡ first_of us
first_of_++ [] us p = refl
first_of_++ (t ∷ ts) us p = first_of-next t (ts ++ us) p.0 ∙ first_of_++ ts us p.1

pub first_of-before : (ts us : List Test) → (first_of ts ≡ 0 → ⊥) → first_of (ts ++ us) ≡ first_of ts
unfolding first_of
first_of-before [] us h = absurd (h refl)
first_of-before (t ∷ ts) us h =
    ⊎_elim
    (λ (e : t.applies ≡ true). rw e)
    (λ (e : t.applies ≡ false). rw e (first_of-before ts us (rw e at h)))
    (decided t.applies)

pub all_pass : (ts : List Test) → Passes ts → first_of ts ≡ 0
all_pass ts p = ap first_of (sym (append-nil ts)) ∙ first_of_++ ts [] p ∙ first_of_[]

-- no test of a list applies, and none behind it
pub front : (ts us : List Test) → Numbered ts → first_of (ts ++ us) ≡ 0 → Passes ts × (first_of us ≡ 0)
front ts us n e =
    ⊎_elim
    (λ z. let p = first_of-passes ts n z in (p, sym (first_of_++ ts us p) ∙ e))
    (λ z. absurd (z (sym (first_of-before ts us z) ∙ e)))
    (eq_or-not (first_of ts) 0)

-- ── refusalOf ──

-- what a file that is not refused meets
pub record Passed (f : List ℕ) : Type 0 where
  pub long : 12 ≤ length f
  pub edition : edition? (trailer f) ≡ false
  pub counts : counts? (trailer f) ≡ false
  pub distance : distance? f ≡ false
  pub zeros : (nonzero f (end_of f + 10) 2 || zeros? (shape_of (trailer f)) (body_of f)) ≡ false
  pub charts : charts? (shape_of (trailer f)) (body_of f) ≡ false
  pub transitions : transitions? (shape_of (trailer f)) (body_of f) ≡ false
  pub slaves : slaves? (file_of f) ≡ false
  pub nodes : nodes? (file_of f) ≡ false
  pub naming : naming? (file_of f) ≡ false
  pub inside : inside? (file_of f) ≡ false

pub numbered : (f : List ℕ) → Numbered (file_tests f)
unfolding file_tests
numbered f = (
  lit< tt,
  (lit< tt, (lit< tt, (lit< tt, (lit< tt, (lit< tt, (lit< tt, (lit< tt, (lit< tt, (lit< tt, (lit< tt, tt)))))))))),
)

pub file-passes : (f : List ℕ) → refusal_of f ≡ 0 → Passes (file_tests f)
unfolding refusal_of
file-passes f h = first_of-passes (file_tests f) (numbered f) h

pub passed : (f : List ℕ) → refusal_of f ≡ 0 → Passed f
unfolding file_tests file_of
passed f h =
    let p = file-passes f h in
    record {
      long = ltb-false _ _ p.0;
      edition = p.1.0;
      counts = p.1.1.0;
      distance = p.1.1.1.0;
      zeros = p.1.1.1.1.0;
      charts = p.1.1.1.1.1.0;
      transitions = p.1.1.1.1.1.1.0;
      slaves = p.1.1.1.1.1.1.1.0;
      nodes = p.1.1.1.1.1.1.1.1.0;
      naming = p.1.1.1.1.1.1.1.1.1.0;
      inside = p.1.1.1.1.1.1.1.1.1.1.0;
    }

-- a call that tests more behind the file's own tests
pub call_refused : (f : List ℕ) (us : List Test) → (refusal_of f ≡ 0 → ⊥) → first_of (file_tests f ++ us) ≡ refusal_of f
unfolding refusal_of
call_refused f us h = first_of-before (file_tests f) us h

pub call-passed : (f : List ℕ) (us : List Test) → refusal_of f ≡ 0 → first_of (file_tests f ++ us) ≡ first_of us
call-passed f us h = first_of_++ (file_tests f) us (file-passes f h)

pub in_front_lem : (f : List ℕ) (us : List Test) → first_of (file_tests f ++ us) ≡ 0
    → (refusal_of f ≡ 0) × (first_of us ≡ 0)
unfolding refusal_of
in_front_lem f us e = let p = front (file_tests f) us (numbered f) e in (all_pass (file_tests f) p.0, p.1)

-- ── counts? ──

in_limit : (m most : ℕ) → (same m 0 || ltb most m) ≡ false → (0 < m) × (m ≤ most)
unfolding same
in_limit m most h =
    let z = eqb-false m 0 (or_left (eqb m 0) (ltb most m) h) in
    (omega (arith, z), ltb-false most m (or_right (eqb m 0) (ltb most m) h))

-- counts that are in order
pub record Counted (t : Trailer) : Type 0 where
  pub some_chart : 0 < t.charts
  pub charts : t.charts ≤ most_charts
  pub slaves : t.slaves ≤ most_slaves
  pub some_node : 0 < t.nodes
  pub nodes : t.nodes ≤ most_nodes
  pub transitions : t.transitions ≤ most_transitions

pub counted : (t : Trailer) → counts? t ≡ false → Counted t
unfolding counts?
counted t h =
    let p =
    or_four (same t.charts 0 || ltb most_charts t.charts) (ltb most_slaves t.slaves)
    (same t.nodes 0 || ltb most_nodes t.nodes)
    (ltb most_transitions t.transitions) h in
    let c = in_limit t.charts most_charts p.0 in
    let k = in_limit t.nodes most_nodes p.2 in
    record {
      some_chart = c.0;
      charts = c.1;
      slaves = ltb-false most_slaves t.slaves p.1;
      some_node = k.0;
      nodes = k.1;
      transitions = ltb-false most_transitions t.transitions p.3;
    }

-- ── charts? ──

-- a chart that is in order
pub record Charted (n : Shape) (b : List ℕ) (c : ℕ) : Type 0 where
  pub some_state : 0 < (head_at n b c).states
  pub states : (head_at n b c).states ≤ most_states
  pub initial : (head_at n b c).initial < (head_at n b c).states
  pub transitions : (head_at n b c).transitions ≤ most_in_chart

module _ (n : Shape) (b : List ℕ) where
  chart-passed : (c : ℕ) → chart? n b c ≡ false → Charted n b c
  unfolding chart?
  chart-passed c h =
      let r = head_at n b c in
      let p =
      or_three (same r.states 0 || ltb most_states r.states) (not_below r.initial r.states)
      (ltb most_in_chart r.transitions) h in
      let s = in_limit r.states most_states p.0 in
      record {
        some_state = s.0;
        states = s.1;
        initial = below r.initial r.states p.1;
        transitions = ltb-false most_in_chart r.transitions p.2;
      }

  pub charted : charts? n b ≡ false → (c : ℕ) → c < n.charts → Charted n b c
  unfolding charts?
  charted h c l = chart-passed c (any-never n.charts (chart? n b) (or_left _ _ h) c l)

  pub summed : charts? n b ≡ false → start_of n b n.charts ≡ n.transitions
  unfolding charts?
  summed h = alike (start_of n b n.charts) n.transitions (or_right (any_up_to n.charts (chart? n b)) _ h)

-- ── transitions? ──

module _ (n : Shape) (b : List ℕ) (c : ℕ) where
  abbrev from_at : ℕ → ℕ
  from_at k = (in_chart n b c k).from

  -- transition k of chart c is bad as a walk meets it: an end that its chart does not have, or more than 8 from its
  -- state up to it
  unfoldable pub bad_at : ℕ → Bool
  bad_at k = ends? n b c k || ltb most_from_state (leaving n b c (from_at k) (suc k))

  pub leaving-none : (s : ℕ) → leaving n b c s 0 ≡ 0
  unfolding leaving tally
  leaving-none s = refl

  pub leaving-more : (s k : ℕ) → leaving n b c s (suc k) ≡ one (same (from_at k) s) + leaving n b c s k
  unfolding leaving tally
  leaving-more s k = refl

  pub leaving-own : (k : ℕ) → leaving n b c (from_at k) (suc k) ≡ suc (leaving n b c (from_at k) k)
  unfolding same
  leaving-own k = leaving-more (from_at k) k ∙ rw (eq-eqb (from_at k) (from_at k) refl) (omega arith)

  pub leaving-other : (s k : ℕ) → (from_at k ≡ s → ⊥) → leaving n b c s (suc k) ≡ leaving n b c s k
  unfolding same
  leaving-other s k h = leaving-more s k ∙ rw (ne_eqb (from_at k) s h) (omega arith)

  -- no more than 8 up to the last transition from s, no more than 8 in all
  leaving-last : (s k : ℕ) → ((u : ℕ) → u < k → leaving n b c (from_at u) (suc u) ≤ most_from_state)
      → leaving n b c s k ≤ most_from_state
  leaving-last s zero h = rw (leaving-none s) (omega arith)
  leaving-last s (suc k) h =
      ⊎_elim
      (λ (e : from_at k ≡ s). rw e at (h k (omega arith)))
      (λ (e : from_at k ≡ s → ⊥). rw (leaving-other s k e) (leaving-last s k (λ u l. h u (omega arith))))
      (eq_or-not (from_at k) s)

  leaving_mono : (s k m : ℕ) → k ≤ m → leaving n b c s k ≤ leaving n b c s m
  unfolding leaving
  leaving_mono s k m h = tally_mono k m _ h

  -- the test of the first k transitions of chart c
  abbrev pub up_to : ℕ → Bool
  up_to k = any_up_to k (ends? n b c) || any_up_to (head_at n b c).states (λ s. ltb most_from_state (leaving n b c s k))

  walked_there : (k : ℕ) → any_up_to k bad_at ≡ false → up_to k ≡ false
  unfolding bad_at
  walked_there k h =
      neither _ _
      (any-all k (ends? n b c) (λ u l. or_left _ _ (any-never k bad_at h u l)))
      (any-all (head_at n b c).states _
      (λ s _. le-ltb _ _
      (leaving-last s k (λ u l. ltb-false _ _ (or_right (ends? n b c u) _ (any-never k bad_at h u l))))))

  walked_back : (k : ℕ) → up_to k ≡ false → any_up_to k bad_at ≡ false
  unfolding bad_at ends?
  walked_back k h =
      any-all k bad_at
      (λ u l.
      let e : ends? n b c u ≡ false = any-never k (ends? n b c) (or_left _ _ h) u l in
      let r = below _ _ (or_left _ _ e) in
      let m : ltb most_from_state (leaving n b c (from_at u) k) ≡ false =
      any-never (head_at n b c).states _ (or_right (any_up_to k (ends? n b c)) _ h) (from_at u) r in
      neither _ _ e
      (le-ltb most_from_state (leaving n b c (from_at u) (suc u))
      (omega (arith, ltb-false, leaving_mono (from_at u) (suc u) k (omega arith)))))

  -- it is the test of each transition as a walk meets it
  pub walked : (k : ℕ) → any_up_to k bad_at ≡ up_to k
  walked k = both_pass _ _ (walked_there k) (walked_back k)

pub transitions_walked : (n : Shape) (b : List ℕ)
    → transitions? n b ≡ any_up_to n.charts (λ c. any_up_to (head_at n b c).transitions (bad_at n b c))
unfolding transitions?
transitions_walked n b = any_cong n.charts _ _ (λ c _. sym (walked n b c (head_at n b c).transitions))

-- what holds of f at each place holds of each element
from_each : {A : Type 0} (f : ℕ → A) (P : A → Type 0) (k n : ℕ) → ((i : ℕ) → i < n → P (f (k + i)))
    → (u : A) → Memᴰ u (from f k n) → P u
unfolding from
from_each f P k zero h u m = absurd (Memᴰ.not-nil m)
from_each f P k (suc n) h u m =
    ⊎_elim
    (λ (e : u ≡ f k). rw e (here (h 0 (omega arith))))
    (λ w. from_each f P (suc k) n (λ i l. next i (h (suc i) (omega arith))) u w)
    (Memᴰ.cases_cons m)
  where
    here : P (f (k + 0)) → P (f k)
    here p = let e : k + 0 ≡ k = omega arith in rw e at p

    next : (i : ℕ) → P (f (k + suc i)) → P (f (suc k + i))
    next i p = let e : k + suc i ≡ suc k + i = omega arith in rw e at p

-- each transition leads to a state of its chart
pub to_states : (n : Shape) (b : List ℕ) → transitions? n b ≡ false → (c : ℕ) → c < n.charts
    → (u : Transition) → Memᴰ u (transitions_of n b c) → u.to < (head_at n b c).states
unfolding transitions_of transitions? ends?
to_states n b h c l =
    from_each (transition_at n b) (λ u. u.to < (head_at n b c).states) (start_of n b c) (head_at n b c).transitions
    (λ i m.
    let q = or_left (any_up_to (head_at n b c).transitions (ends? n b c)) _ (any-never n.charts _ h c l) in
    let e = any-never (head_at n b c).transitions (ends? n b c) q i m in
    below _ _ (or_right (not_below (in_chart n b c i).from (head_at n b c).states) _ e))
