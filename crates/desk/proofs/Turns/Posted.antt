-- That what the functions compute one after another (Turns) is what the posting says (Posting). In this order: a
-- record's first bytes; the entries; the file and the cases looked at; a case posted; the book posted; what is decided
-- (`verdict_is`); what posting asks (`posts`); the whole: a day posted (`posted`) and a day refused (`refuses`).
use Rattle.std.specs.Prelude.{◌≡◌, Bool, true, false, ◌||◌, ◌⊎◌, leb, eqb, take, drop, set, Result, Ok, Err}
use Rattle.std.specs.Result.{result_and}
use Rattle.std.proofs.Math.Path.{refl, sym, ap₂}
use Rattle.std.proofs.Common.{ap, ◌∙◌, arith, lit<, length-set, length-append, get_or-set_same, get_or-set_other}
use Rattle.std.proofs.Common.{take_at, take-suc}
use Rattle.std.proofs.Math.Bool.{cond, or_assoc, or-false}
use Rattle.std.proofs.Math.Logic.{inl, inr}
use mathlib.Core.List.{List, [], ◌∷◌, ◌++◌, append_assoc, append-nil}
use Prim.Native.Nat.{ℕ, zero, suc, ◌+◌, ◌*◌, ◌≤◌, ◌<◌}
use borrow.Author.Tests.{lt-ltb, le-ltb, eq-eqb, ne_eqb, ltb-false, eqb-false, leb-false}
use Rattle.std.proofs.Math.Dec.{ltb}
use Rattle.std.proofs.Math.ListN.{length, get_or, get_or-append}
use Rattle.std.proofs.lemmas.List.{length-replicate, get_or-replicate}
use Rattle.signals.specs.Mask.{◌∪◌}
use Rattle.signals.specs.Decide.{sets, A, B, C, ◌∪ₑ◌, ∅ₑ, ◌≐◌}
use Rattle.meaning.specs.Numbers.{most_charts, wrong_length}
use Rattle.meaning.specs.Sums.{any_up_to}
use Rattle.meaning.specs.Sums.Laws.{any_cong}
use Rattle.meaning.specs.Meaning.{Set, same, Answer, refused, given}
use Rattle.meaning.specs.File.{File, trailer, shape_of, file_at, file_of}
use Rattle.meaning.specs.Check.{Test, first_of, file_tests, refusal_of, not_below}
use Rattle.meaning.specs.Check.Laws.{eq_or-not, first_of_++, first_of-before, first_of-passes, Passes, passed, counted}
use Rattle.meaning.specs.Check.Laws.{call_refused, call-passed}
use Rattle.meaning.specs.Calls.{made, laid_over, config_tests, Valid, step_refusal}
use Rattle.meaning.specs.Calls.{step_in, step_of, next_in}
use Rattle.meaning.specs.Calls.{row_of, after_step}
use Rattle.meaning.specs.Calls.Laws.{length-made, get_or-made, call_allowed, step_open, behind_is}
use Rattle.meaning.proofs.Laws.Runs.{file-leads, valid-after}
use Rattle.checks.specs.Refusals.{number, told}
use Rattle.checks.specs.Refusals.Laws.{number-some}
use Rattle.checks.specs.declared.refusal.Refusal.{Refusal}
use Rattle.queries.specs.States.{chart_states, states_of}
use Rattle.desk.specs.declared.Case.{Case}
use Rattle.desk.specs.declared.Entry.{Entry}
use Rattle.desk.specs.declared.Day.{Day}
use Rattle.desk.specs.declared.Seen.{Seen}
use Rattle.desk.specs.Posting.{most_cases, last_row, width, bad_book, no_such_case, rows_end, short_book, config_of}
use Rattle.desk.specs.Posting.{joined, book_tests, outside?, ended?, day_tests, post_refusal, posted_row}
use Rattle.desk.specs.Posting.{posted_case, rows_from, cases_from, post_cases, post_rows, PostSays}
use Rattle.desk.specs.Turns.{first_bytes, joined_at, taken_of, no_day, all_taken, bad_of, seen_of, unseen_of, all_seen}
use Rattle.desk.specs.Turns.{verdict_of, decided_of, turn_case, row_bytes, turn_row}
use Rattle.desk.specs.Turns.{turn_cases, turn_rows, Postable}

-- the first bytes of a record that has them
pub first-bytes : (n : ℕ) (l : List ℕ) → n ≤ length l → take n l ≡ first_bytes n l
unfolding made
first-bytes zero l h = refl
first-bytes (suc n) l h = rw (take-suc l n 0 h, first-bytes n l (omega arith))

or-none-left : (a b : Bool) → (a || b) ≡ false → (a ≡ false) × (b ≡ false)
or-none-left true b h = absurd (let z : ◌≡◌ {A = ℕ} 0 1 = cc in omega arith)
or-none-left false b h = (refl, h)

-- ── the entries ──

put_other : (t : Bool) (l : List Set) (e k x : ℕ) → (k ≡ e → ⊥) → get_or (cond t (set l e x) l) k 0 ≡ get_or l k 0
put_other true l e k x h = get_or-set_other l e k x 0 h
put_other false l e k x h = refl

put-long : (t : Bool) (l : List Set) (e x : ℕ) → length (cond t (set l e x) l) ≡ length l
put-long true l e x = length-set l e x
put-long false l e x = refl

-- what the day has for a case is what it had, joined with the entries
pub sets-joined : (n : ℕ) (d : Day) (es : List Entry) (k : ℕ) → length d.sets ≡ most_cases → k < most_cases
    → get_or (all_taken n d es).sets k 0 ≡ get_or d.sets k 0 ∪ joined k es
unfolding all_taken joined taken_of joined_at same
sets-joined n d [] k h l = sets (get_or d.sets k 0 ∷ []) [] (A ≐ A ∪ₑ ∅ₑ) tt
sets-joined n d (e ∷ es) k h l =
    sets-joined n (taken_of n d e) es k (put-long (ltb e.number most_cases) d.sets e.number _ ∙ h) l
    ∙ elim (eq_or-not e.number k) [
      | inl q ↦ rw (
        q,
        lt-ltb k most_cases l,
        get_or-set_same d.sets k (get_or d.sets k 0 ∪ e.signals) 0 (omega arith),
        eq-eqb k k refl,
      )
          (sets (get_or d.sets k 0 ∷ e.signals ∷ joined k es ∷ []) [] ((A ∪ₑ B) ∪ₑ C ≐ A ∪ₑ (B ∪ₑ C)) tt)
      | inr q ↦ rw (
        put_other (ltb e.number most_cases) d.sets e.number k (get_or d.sets e.number 0 ∪ e.signals)
            (λ z. q (sym z)),
        ne_eqb e.number k q,
      )
    ]

pub sets-of-day : (n : ℕ) (es : List Entry) (k : ℕ) → k < most_cases
    → get_or (all_taken n no_day es).sets k 0 ≡ joined k es
unfolding no_day
sets-of-day n es k l =
    sets-joined n no_day es k (length-replicate {A = ℕ} most_cases 0) l
    ∙ rw (get_or-replicate {A = ℕ} most_cases k 0 0 l) (sets (joined k es ∷ []) [] (∅ₑ ∪ₑ A ≐ A) tt)

pub outside-all : (n : ℕ) (d : Day) (es : List Entry) → (all_taken n d es).outside ≡ (d.outside || outside? n es)
unfolding all_taken taken_of outside?
outside-all n d [] = sym (or-false d.outside)
outside-all n d (e ∷ es) = outside-all n (taken_of n d e) es ∙ or_assoc d.outside (leb n e.number) (outside? n es)

pub outside-of-day : (n : ℕ) (es : List Entry) → (all_taken n no_day es).outside ≡ outside? n es
unfolding no_day
outside-of-day n es = outside-all n no_day es

-- ── the file and the cases looked at ──

-- 20 and 21 of a configuration
abbrev pub refusal_at : List ℕ → List ℕ → ℕ
refusal_at f config = first_of (config_tests f config)

config_passes : (f config : List ℕ) → refusal_at f config ≡ 0 → Passes (config_tests f config)
unfolding config_tests
config_passes f config z = first_of-passes (config_tests f config) (lit< tt, (lit< tt, tt)) z

book_first : (f : List ℕ) (c : Case) (cs : List Case) → (refusal_at f (config_of c) ≡ 0 → ⊥)
    → first_of (book_tests f (c ∷ cs)) ≡ refusal_at f (config_of c)
unfolding book_tests
book_first f c cs z = first_of-before (config_tests f (config_of c)) (book_tests f cs) z

book_next : (f : List ℕ) (c : Case) (cs : List Case) → refusal_at f (config_of c) ≡ 0
    → first_of (book_tests f (c ∷ cs)) ≡ first_of (book_tests f cs)
unfolding book_tests
book_next f c cs z = first_of_++ (config_tests f (config_of c)) (book_tests f cs) (config_passes f (config_of c) z)

pub book_passes : (f : List ℕ) (c : Case) (cs : List Case) → first_of (book_tests f (c ∷ cs)) ≡ 0
    → (refusal_at f (config_of c) ≡ 0) × (first_of (book_tests f cs) ≡ 0)
book_passes f c cs e = elim (eq_or-not (refusal_at f (config_of c)) 0) [
  | inl z ↦ (z, sym (book_next f c cs z) ∙ e)
  | inr z ↦ absurd (z (sym (book_first f c cs z) ∙ e))
]

pub each_passes : (f : List ℕ) (cs : List Case) → first_of (book_tests f cs) ≡ 0 → (k : ℕ) (c : Case) → k < length cs
    → refusal_at f (config_of (get_or cs k c)) ≡ 0
each_passes f [] e k c l = absurd (omega (arith, l))
each_passes f (a ∷ as') e zero c l = (book_passes f a as' e).0
each_passes f (a ∷ as') e (suc k) c l = each_passes f as' (book_passes f a as' e).1 k c (omega (arith, l))

book_through : (f : List ℕ) (cs : List Case) (us : List Test) → first_of (book_tests f cs) ≡ 0
    → first_of (book_tests f cs ++ us) ≡ first_of us
unfolding book_tests
book_through f [] us e = refl
book_through f (c ∷ cs) us e =
    let z = book_passes f c cs e in
    rw append_assoc
    (first_of_++ (config_tests f (config_of c)) (book_tests f cs ++ us) (config_passes f (config_of c) z.0)
    ∙ book_through f cs us z.1)

-- what is seen is 20 or 21 of the first bad case
pub told-and : (a b : Result (Unit {0}) Refusal) → told (result_and a b) ≡ cond (same (told a) 0) (told b) (told a)
unfolding same
told-and (Ok x) b = refl
told-and (Err e) b = rw (ne_eqb (number e) 0 (number-some e))

told-cond : (t : Bool) (a b : Result (Unit {0}) Refusal) → told (cond t a b) ≡ cond t (told a) (told b)
told-cond true a b = refl
told-cond false a b = refl

seen-ended : (s : Seen) (cs : List Case) → (all_seen s cs).ended ≡ (s.ended || ended? cs)
unfolding all_seen seen_of ended?
seen-ended s [] = sym (or-false s.ended)
seen-ended s (c ∷ cs) = seen-ended (seen_of s c) cs ∙ or_assoc s.ended (leb last_row c.last) (ended? cs)

pub book_ended : (f : List ℕ) (cs : List Case) → (all_seen (unseen_of f) cs).ended ≡ ended? cs
unfolding unseen_of
book_ended f cs = seen-ended (unseen_of f) cs

seen-charts : (s : Seen) (cs : List Case) → (all_seen s cs).charts ≡ s.charts
unfolding all_seen seen_of
seen-charts s [] = refl
seen-charts s (c ∷ cs) = seen-charts (seen_of s c) cs

either_way : (t : Bool) (x : ℕ) → cond t x x ≡ x
either_way true x = refl
either_way false x = refl

module _ (f : List ℕ) (h : refusal_of f ≡ 0) where
  abbrev F : File
  F = file_of f

  pub few_charts : F.charts ≤ most_charts
  unfolding file_of file_at shape_of
  few_charts = (counted (trailer f) (passed f h).counts).charts

  -- a configuration that neither 20 nor 21 applies to
  pub config_valid : (config : List ℕ) → refusal_at f config ≡ 0 → Valid F config
  config_valid config z =
      (call_allowed f config []
      (ap first_of (append-nil (file_tests f ++ config_tests f config))
      ∙ call-passed f (config_tests f config) h ∙ z)).1

  -- it has a byte for each chart
  pub len_known : (c : Case) → refusal_at f (config_of c) ≡ 0 → c.length ≡ F.charts
  len_known c z = sym (length-made c.length (λ k. get_or c.config k 0)) ∙ (config_valid (config_of c) z).long

  -- what is seen has the file's charts and their states
  record Knows (s : Seen) : Type 0 where
    charts : s.charts ≡ F.charts
    states : (k : ℕ) → k < F.charts → get_or s.states k 0 ≡ (F.chart k).states

  pub charts-seen : (unseen_of f).charts ≡ F.charts
  unfolding unseen_of states_of
  charts-seen = refl

  states-seen : (k : ℕ) → k < F.charts → get_or (unseen_of f).states k 0 ≡ (F.chart k).states
  unfolding unseen_of states_of chart_states
  states-seen k l =
      let n = F.charts in
      let t : ℕ → ℕ = λ c. (F.chart c).states in
      get_or-append (made n t) _ 0 k (rw (length-made n t) l) ∙ get_or-made n t k l

  knows : Knows (unseen_of f)
  knows = record { charts = charts-seen; states = states-seen }

  knows_on : (s : Seen) (c : Case) → Knows s → Knows (seen_of s c)
  unfolding seen_of
  knows_on s c q = record { charts = q.charts; states = q.states }

  any_same : (s : Seen) → Knows s → (c : Case) → c.length ≡ F.charts
      → any_up_to c.length (λ k. not_below (get_or c.config k 0) (get_or s.states k 0))
      ≡ any_up_to F.charts (λ k. not_below (get_or (config_of c) k 0) (F.chart k).states)
  any_same s q c z =
      ap (λ (n : ℕ). any_up_to n (λ k. not_below (get_or c.config k 0) (get_or s.states k 0))) z
      ∙ any_cong F.charts _ _ (λ k l. ap₂ (λ (m n : ℕ). not_below m n)
      (sym (get_or-made c.length (λ j. get_or c.config j 0) k (omega (arith, l, z)))) (q.states k l))

  bad_config : (s : Seen) → Knows s → (c : Case) → told (bad_of s c) ≡ refusal_at f (config_of c)
  unfolding bad_of config_tests first_of same
  bad_config s q c = elim (eq_or-not c.length F.charts) [
    | inl z ↦ rw (
      le-ltb most_charts c.length (omega (arith, few_charts, z)),
      eq-eqb c.length s.charts (z ∙ sym q.charts),
      eq-eqb (length (config_of c)) F.charts (long ∙ z),
      any_same s q c z,
    )
        (told-cond _ _ _)
    | inr z ↦ rw (
      ne_eqb c.length s.charts (λ e. z (e ∙ q.charts)),
      ne_eqb (length (config_of c)) F.charts (λ e. z (sym long ∙ e)),
    )
        (told-cond (ltb most_charts c.length) _ _ ∙ either_way (ltb most_charts c.length) wrong_length)
  ]
    where
      long : length (config_of c) ≡ c.length
      long = length-made c.length (λ k. get_or c.config k 0)

  refusal_now : (s : Seen) → Knows s → (c : Case)
      → told (seen_of s c).tested ≡ cond (same (told s.tested) 0) (refusal_at f (config_of c)) (told s.tested)
  unfolding seen_of
  refusal_now s q c = rw (told-and s.tested (bad_of s c), bad_config s q c)

  seen_refusal : (s : Seen) → Knows s → (cs : List Case)
      → told (all_seen s cs).tested ≡ cond (same (told s.tested) 0) (first_of (book_tests f cs)) (told s.tested)
  unfolding all_seen book_tests first_of same
  seen_refusal s q [] = elim (eq_or-not (told s.tested) 0) [ inl z ↦ rw z | inr z ↦ rw (ne_eqb (told s.tested) 0 z) ]
  seen_refusal s q (c ∷ cs) = seen_refusal (seen_of s c) (knows_on s c q) cs ∙ elim (eq_or-not (told s.tested) 0) [
    | inl z ↦ first z (eq_or-not (refusal_at f (config_of c)) 0)
    | inr z ↦ rw (refusal_now s q c, ne_eqb (told s.tested) 0 z, ne_eqb (told s.tested) 0 z)
  ]
    where
      first : told s.tested ≡ 0 → ((refusal_at f (config_of c) ≡ 0) ⊎ (refusal_at f (config_of c) ≡ 0 → ⊥))
          → cond (same (told (seen_of s c).tested) 0) (first_of (book_tests f cs)) (told (seen_of s c).tested)
          ≡ cond (same (told s.tested) 0) (first_of (book_tests f (c ∷ cs))) (told s.tested)
      first z (inl y) = rw (refusal_now s q c, z, y, book_next f c cs y)
      first z (inr y) = rw (refusal_now s q c, z, ne_eqb (refusal_at f (config_of c)) 0 y) (sym (book_first f c cs y))

  pub book_refusal : (cs : List Case) → told (all_seen (unseen_of f) cs).tested ≡ first_of (book_tests f cs)
  unfolding same unseen_of
  book_refusal cs = seen_refusal (unseen_of f) knows cs

  pub book_charts : (cs : List Case) → (all_seen (unseen_of f) cs).charts ≡ F.charts
  book_charts cs = seen-charts (unseen_of f) cs ∙ charts-seen

-- ── a case posted ──

front-laid : (n xs : List ℕ) → first_bytes (length n) (n ++ xs) ≡ n
front-laid n xs = sym (first-bytes (length n) (n ++ xs) (rw length-append (omega arith))) ∙ take_at n xs (length n) refl

module _ (f : List ℕ) (h : refusal_of f ≡ 0) (c : Case) (z : refusal_at f (config_of c) ≡ 0) where
  -- the step that is asked for is given the room that it needs
  pub step_is : (i : Set) → step_of f (config_of c) i width ≡ step_in (file_of f) (config_of c) i
  unfolding step_of
  step_is i =
      let l = few_charts f h in
      behind_is (step_refusal f (config_of c) width) _ _
      (step_open f (config_of c) width h (config_valid f h (config_of c) z) (omega (arith, l)))

  -- the configuration after it has a byte for each chart
  pub after-long : (i : Set) (r : Answer) → step_in (file_of f) (config_of c) i ≡ r
      → length (after_step r (config_of c)) ≡ (file_of f).charts
  after-long i r e =
      ap (λ (a : Answer). length (after_step a (config_of c))) (sym e)
      ∙ (valid-after (file_of f) (file-leads f h) (config_of c) i (config_valid f h (config_of c) z)).long

  pub next-bytes : (i : Set) (r : Answer) → step_in (file_of f) (config_of c) i ≡ r
      → first_bytes (file_of f).charts (next_in r c.config) ≡ after_step r (config_of c)
  next-bytes i (refused r) e = ap (λ (n : ℕ). first_bytes n c.config) (sym (len_known f h c z))
  next-bytes i (given o n m) e = rw (← after-long i (given o n m) e) (front-laid n (drop (length n) c.config))

  module _ (d : Day) (k : ℕ) (i : Set) (e : get_or d.sets k 0 ≡ i) where
    pub case_posted : turn_case f c d k ≡ posted_case (file_of f) c i
    unfolding turn_case posted_case
    case_posted = rw (e, step_is (c.carried ∪ i)) refl

    pub row_posted : turn_row (file_of f).charts f c d k ≡ posted_row (file_of f) c i
    unfolding turn_row row_bytes posted_row row_of
    row_posted = rw (
      e,
      step_is (c.carried ∪ i),
      next-bytes (c.carried ∪ i) (step_in (file_of f) (config_of c) (c.carried ∪ i)) refl,
    )

-- ── the book posted, from case k on ──

module _ (f : List ℕ) (h : refusal_of f ≡ 0) (d : Day) (es : List Entry)
    (e : (k : ℕ) → k < most_cases → get_or d.sets k 0 ≡ joined k es) where
  cases_posted : (k : ℕ) (cs : List Case) → first_of (book_tests f cs) ≡ 0 → k + length cs ≤ most_cases
      → turn_cases f d (length cs) k cs ≡ cases_from (file_of f) k cs es
  unfolding turn_cases cases_from
  cases_posted k [] z l = refl
  cases_posted k (c ∷ cs) z l =
      let p = book_passes f c cs z in
      ap₂ (λ (x : Case) (xs : List Case). x ∷ xs) (case_posted f h c p.0 d k (joined k es) (e k (omega (arith, l))))
      (cases_posted (suc k) cs p.1 (omega (arith, l)))

  rows_posted : (k : ℕ) (cs : List Case) → first_of (book_tests f cs) ≡ 0 → k + length cs ≤ most_cases
      → turn_rows f d (file_of f).charts (length cs) k cs ≡ rows_from (file_of f) k cs es
  unfolding turn_rows rows_from
  rows_posted k [] z l = refl
  rows_posted k (c ∷ cs) z l =
      let p = book_passes f c cs z in
      ap₂ (λ (x xs : List ℕ). x ++ xs) (row_posted f h c p.0 d k (joined k es) (e k (omega (arith, l))))
      (rows_posted (suc k) cs p.1 (omega (arith, l)))

-- ── what is decided ──

module _ (f : List ℕ) (cs : List Case) (es : List Entry) (room : ℕ) where
  abbrev pub seen : Seen
  seen = all_seen (unseen_of f) cs

  abbrev pub day : Day
  day = all_taken (length cs) no_day es

  abbrev pub decision : ℕ
  decision = decided_of seen day.outside (length cs) room

  pub verdict_is : refusal_of f ≡ 0 → decision ≡ post_refusal f cs es room
  unfolding decided_of verdict_of post_refusal same day_tests first_of
  verdict_is h =
      rw (book_refusal f h cs, call-passed f (book_tests f cs ++ day_tests f cs es room) h)
      (behind (eq_or-not (first_of (book_tests f cs)) 0))
    where
      behind : ((first_of (book_tests f cs) ≡ 0) ⊎ (first_of (book_tests f cs) ≡ 0 → ⊥))
          → cond (eqb (first_of (book_tests f cs)) 0)
          (cond (eqb (length cs) 0 || ltb most_cases (length cs)) bad_book
          (cond day.outside no_such_case
          (cond seen.ended rows_end (cond (ltb room (length cs * (14 + seen.charts))) short_book 0))))
          (first_of (book_tests f cs))
          ≡ first_of (book_tests f cs ++ day_tests f cs es room)
      behind (inr z) =
          rw (ne_eqb (first_of (book_tests f cs)) 0 z)
          (sym (first_of-before (book_tests f cs) (day_tests f cs es room) z))
      behind (inl z) = rw (
        eq-eqb (first_of (book_tests f cs)) 0 z,
        book_through f cs (day_tests f cs es room) z,
        outside-of-day (length cs) es,
        book_ended f cs,
        book_charts f h cs,
      ) refl

  -- ── what posting asks: that of a day that is accepted ──

  rows_on : (cs : List Case) → ended? cs ≡ false → (k : ℕ) (c : Case) → k < length cs → (get_or cs k c).last < last_row
  unfolding ended?
  rows_on [] e k c l = absurd (omega (arith, l))
  rows_on (a ∷ as') e zero c l = leb-false last_row a.last (or-none-left (leb last_row a.last) (ended? as') e).0
  rows_on (a ∷ as') e (suc k) c l =
      rows_on as' (or-none-left (leb last_row a.last) (ended? as') e).1 k c (omega (arith, l))

  -- what an accepted day meets
  pub record Accepted : Type 0 where
    pub file : refusal_of f ≡ 0
    pub book : first_of (book_tests f cs) ≡ 0
    pub some : length cs ≡ 0 → ⊥
    pub few : length cs ≤ most_cases
    pub on : ended? cs ≡ false
    pub fits : length cs * (14 + (file_of f).charts) ≤ room

  pub accepted : post_refusal f cs es room ≡ 0 → Accepted
  unfolding post_refusal day_tests same
  accepted e = record {
    file = h;
    book = z;
    some = eqb-false (length cs) 0 (or-none-left (same (length cs) 0) (ltb most_cases (length cs)) p.0).0;
    few = ltb-false most_cases (length cs) (or-none-left (same (length cs) 0) (ltb most_cases (length cs)) p.0).1;
    on = p.1.1.0;
    fits = ltb-false room (length cs * (14 + (file_of f).charts)) p.1.1.1.0;
  }
    where
      h : refusal_of f ≡ 0
      h = elim (eq_or-not (refusal_of f) 0) [
        | inl y ↦ y
        | inr y ↦ absurd (y (sym (call_refused f (book_tests f cs ++ day_tests f cs es room) y) ∙ e))
      ]

      t : first_of (book_tests f cs ++ day_tests f cs es room) ≡ 0
      t = sym (call-passed f (book_tests f cs ++ day_tests f cs es room) h) ∙ e

      z : first_of (book_tests f cs) ≡ 0
      z = elim (eq_or-not (first_of (book_tests f cs)) 0) [
        | inl y ↦ y
        | inr y ↦ absurd (y (sym (first_of-before (book_tests f cs) (day_tests f cs es room) y) ∙ t))
      ]

      p : Passes (day_tests f cs es room)
      p =
          first_of-passes (day_tests f cs es room) (lit< tt, (lit< tt, (lit< tt, (lit< tt, tt))))
          (sym (book_through f cs (day_tests f cs es room) z) ∙ t)

  -- the charts that an accepted day's cases have
  pub charts_are : Accepted → seen.charts ≡ (file_of f).charts
  charts_are a = book_charts f a.file cs

  pub posts : Accepted → Postable cs (length cs) seen.charts room
  posts a = record {
    few = a.few;
    there = omega arith;
    narrow = omega (arith, charts_are a, few_charts f a.file);
    fits = rw (charts_are a) a.fits;
    known = λ k c l.
        omega (arith, len_known f a.file (get_or cs k c) (each_passes f cs a.book k c l), few_charts f a.file);
    rising = rows_on cs a.on;
  }

-- ── the whole ──

module _ (f : List ℕ) (cs : List Case) (es : List Entry) (rows : List ℕ) where
  abbrev refusal : ℕ
  refusal = post_refusal f cs es (length rows)

  -- a day that the file and what is decided let pass is posted
  pub posted : (h : refusal_of f ≡ 0) (z : 0 ≡ decision f cs es (length rows))
      → PostSays f cs es rows (Ok tt) (turn_cases f (day f cs es (length rows)) (length cs) 0 cs)
      (laid_over (turn_rows f (day f cs es (length rows)) (seen f cs es (length rows)).charts (length cs) 0 cs) rows)
  unfolding post_cases post_rows same
  posted h z =
      let y : refusal ≡ 0 = sym (z ∙ verdict_is f cs es (length rows) h) in
      let a = accepted f cs es (length rows) y in
      let e = sets-of-day (length cs) es in (
        (y, refl),
        rw (eq-eqb refusal 0 y) (cases_posted f h (day f cs es (length rows)) es e 0 cs a.book (omega (arith, a.few))),
        rw (
          eq-eqb refusal 0 y,
          charts_are f cs es (length rows) a,
          rows_posted f h (day f cs es (length rows)) es e 0 cs a.book (omega (arith, a.few)),
        ),
      )

  -- one that is refused changes nothing
  pub refuses : (r : Refusal) → number r ≡ refusal → PostSays f cs es rows (Err r) cs rows
  unfolding post_cases post_rows same
  refuses r e =
      let z = ne_eqb refusal 0 (λ y. number-some r (e ∙ y)) in (e, rw z, rw z)

  -- the file's refusal is the day's
  pub file_refused : (r : Refusal) → number r ≡ refusal_of f → number r ≡ refusal
  unfolding post_refusal
  file_refused r e =
      e ∙ sym (call_refused f (book_tests f cs ++ day_tests f cs es (length rows)) (λ y. number-some r (e ∙ y)))
