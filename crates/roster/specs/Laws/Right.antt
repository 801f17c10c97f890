-- The records of charts and transitions to which 52 does not apply are exact: the transitions of such a chart are in
-- range (`lines_in_range`), and its head and they are what they mean (`head-right`, `record_right`).
use Rattle.std.specs.Prelude.{◌≡◌, false, ◌||◌, not, ℕ, ◌≤◌, ◌<◌, ◌%◌, length}
use Rattle.std.proofs.Math.Path.{ap}
use Rattle.std.proofs.Common.{◌∙◌, subst, arith}
use mathlib.Core.List.{List, [], ◌∷◌, map-id}
use borrow.Author.Tests.{lt-ltb, ltb-false, eqb-true, not-false}
use Rattle.layout.specs.Record.{head_bytes}
use Rattle.layout.specs.declared.record.Head.{Head}
use Rattle.meaning.specs.Each.{Each, none, more}
use Rattle.meaning.specs.Meaning.{same}
use Rattle.meaning.specs.Numbers.{most_in_chart}
use Rattle.meaning.specs.Check.{not_below, differ}
use Rattle.meaning.specs.Sums.Laws.{or_left, or_right}
use Rattle.notation.specs.Syntax.{Transition, Sequential}
use Rattle.notation.specs.Grammar.{Tokens}
use Rattle.reading.specs.Numbers.{named_states}
use Rattle.reading.specs.Names.{members_of, members_or, first, any, has, not_all?, set?, optional?, transition?}
use Rattle.reading.specs.Names.{sequential?}
use Rattle.reading.specs.Meant.{transition_for, transitions_in, head_for}
use Rattle.tokens.specs.Tokens.{cap}
use Rattle.fields.specs.declared.Passage.{Passage}
use Rattle.fields.specs.Fields.{Passes}
use Rattle.lists.specs.declared.Sequential.{Sequential as Drawn}
use Rattle.lists.specs.Lists.{SequentialAt}
use Rattle.lists.specs.Laws.States.{any_at, cap_in}
use Rattle.lists.specs.Laws.Headings.{first_in_lem}
use Rattle.laying.specs.Room.{Tries}
use Rattle.roster.specs.Roster.{crowded?, StandsAt}
use Rattle.roster.specs.Records.{HeadAt, record_of, InRange}
use Rattle.roster.specs.Laws.Sorted.{few_names}

-- ── a chart ──

small : (n : ℕ) → n < 256 → n % 256 ≡ n
small n h = omega arith

module _ (s : Sequential) (e : sequential? s ≡ false) where
  abbrev states : List ℕ
  states = members_of s.heading.states

  -- the tests, one after another
  states_good : not_all? named_states states ≡ false
  unfolding sequential?
  states_good = or_left _ _ e

  rest_good : (differ s.heading.initial (first s.heading.states) || (set? s.heading.feedback
      || (any (transition? states) (members_or s.transitions) || optional? s.extra))) ≡ false
  unfolding sequential?
  rest_good = or_right (not_all? named_states states) _ e

  few_states : length states ≤ named_states
  few_states = few_names (λ n. n) named_states states (ap (not_all? named_states) (map-id states) ∙ states_good)

  initial_low : s.heading.initial < named_states
  unfolding same
  initial_low =
      let d = or_left (differ s.heading.initial (first s.heading.states)) _ rest_good in
      let f = eqb-true s.heading.initial (first s.heading.states) (not-false _ d) in
      (cap_in named_states (omega arith) s.heading.initial
      (ap (λ k. not_below k named_states) f ∙ first_in_lem s.heading.states states_good)).1

  lines_good : any (transition? states) (members_or s.transitions) ≡ false
  lines_good =
      or_left (any (transition? states) (members_or s.transitions)) (optional? s.extra)
      (or_right (set? s.heading.feedback) _
      (or_right (differ s.heading.initial (first s.heading.states)) _ rest_good))

  -- ── its transitions ──

  state_low : (n : ℕ) → not (has states n) ≡ false → n < named_states
  unfolding not_all?
  state_low n h =
      (cap_in named_states (omega arith) n
      (any_at (λ k. not_below k named_states) states n (or_left _ _ states_good) (not-false (has states n) h))).1

  in_range : (t : Transition) → transition? states t ≡ false → InRange t
  unfolding transition?
  in_range t h =
      let f = or_right (not (has states t.from)) _ h in
      record {
        from = state_low t.from (or_left (not (has states t.from)) _ h);
        to = state_low t.to (or_left (not (has states t.to)) _ f);
        sets = or_right (not (has states t.to)) _ f;
      }

  all_in_range : (ts : List Transition) → any (transition? states) ts ≡ false → Each InRange ts
  unfolding any
  all_in_range [] h = none
  all_in_range (t ∷ ts) h =
      more (in_range t (or_left _ _ h)) (all_in_range ts (or_right (transition? states t) _ h))

  pub lines_in_range : Each InRange (transitions_in s)
  lines_in_range = all_in_range (transitions_in s) lines_good

-- ── the records ──

module _ (w : List ℕ) (at : ℕ) (v : Drawn) (r : Head) where
  pub head-right : SequentialAt w at v → r.states ≡ v.states % 256 → r.initial ≡ v.initial % 256
      → r.transitions ≡ v.transitions % 256 → r.feedback ≡ v.feedback → r.extra ≡ v.extra → HeadAt w at r
  unfolding head_for
  head-right a es ei et ef ex s h e k =
      let g = a.gives s h.behind h.text in
      let good = g.is_bad ∙ e in
      let l = few_states s e in
      let i = initial_low s e in
      let m = ltb-false most_in_chart (length (transitions_in s)) k in
      let is : (n m : ℕ) → n ≡ m → m < 256 → n % 256 ≡ m = λ n m q j. ap (λ x. x % 256) q ∙ small m j in
      let ps = es ∙ is v.states (length (states s e)) g.is_states (omega arith) in
      let pi = ei ∙ is v.initial s.heading.initial (g.is_initial good) (omega arith) in
      let pt = et ∙ is v.transitions (length (transitions_in s)) g.is_transitions (omega arith) in
      let pf = ef ∙ g.is_feedback good in
      let px = ex ∙ g.is_extra good in
      λ z. record { states = ps z; initial = pi z; transitions = pt z; feedback = pf z; extra = px z }

-- a head is written
pub head-put : {w : List ℕ} {at : ℕ} {r : Head} {before after : List ℕ} {to next : ℕ} → HeadAt w at r
    → Tries before to (head_bytes r) after next → (s : Sequential) → StandsAt w at s
    → (sequential? s ≡ false) × (crowded? s ≡ false) → Tries before to (head_bytes (head_for s)) after next
head-put {before} {after} {to} {next} a f s x g =
    subst (λ h. Tries before to (head_bytes h) after next) (a s x g.0 g.1) f

pub record_right : (w : List ℕ) (p : Passage) (t : Transition) (us : Tokens) → Passes w p t us → InRange t
    → record_of p ≡ transition_for t
unfolding record_of transition_for
record_right w p t us g i =
    let good = g.is_bad ∙ i.sets in
    let low : (n : ℕ) → n < named_states → cap n % 256 ≡ n =
    λ n l. ap (λ x. x % 256) (cap_in named_states (omega arith) n (ap not (lt-ltb n 16 l))).0 ∙ small n (omega arith) in
    let a = ap (λ x. x % 256) g.is_from ∙ low t.from i.from in
    let b = ap (λ x. x % 256) g.is_to ∙ low t.to i.to in
    let pn = g.is_needed good in
    let pb = g.is_barred good in
    let pa = g.is_action good in
    λ z. record { from = a z; to = b z; needed = pn z; barred = pb z; action = pa z }
