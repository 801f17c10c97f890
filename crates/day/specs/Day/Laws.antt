-- Laws of the day program, in this order: what is laid over the front of a part of a buffer; lines of rows, one more,
-- and the last; the refusals 1 to 11 and 30; the first configuration; the whole output; that the contract determines
-- it, and that it is the output for all of the input.
use Rattle.std.specs.Prelude.{◌≡◌, refl, ℕ, zero, suc, ◌+◌, ◌*◌, ◌-◌, ◌/◌, ◌%◌, ◌≤◌, ◌<◌, get_or, take, drop}
use Rattle.std.proofs.Math.Path.{sym, ap}
use Rattle.std.proofs.Common.{◌∙◌, suc-mul, mul-le-mul_right, add-one, arith, length-append, length-take, length-drop}
use Rattle.std.proofs.Common.{take-append-drop, take_at, take_all, drop_at, drop-drop, length-take-le}
use Rattle.std.proofs.Math.Bool.{not}
use mathlib.Core.List.{List, [], ◌∷◌, ◌++◌, append_assoc}
use Rattle.std.proofs.Math.Decide.{dec_lt}
use borrow.Author.Tests.{eq-eqb, ne_eqb, lt-ltb, le-ltb}
use Rattle.std.proofs.Math.Dec.{ltb}
use Rattle.std.proofs.Math.ListN.{length}
use Rattle.std.proofs.lemmas.List.{drop-append-le, take-append-le}
use Rattle.layout.specs.Body.{size_of, head_at}
use Rattle.layout.specs.declared.body.Shape.{Shape}
use Rattle.meaning.specs.Numbers.{most_charts, most_input, input_too_long, odd_front}
use Rattle.meaning.specs.Meaning.{∅, same}
use Rattle.meaning.specs.File.{trailer, shape_of, body_of, chart_of, file_at, file_of}
use Rattle.meaning.specs.Check.{Test, first_of, file_tests, refusal_of, differ, distance?}
use Rattle.meaning.specs.Sums.Laws.{or_left, any-all}
use Rattle.meaning.specs.Check.Laws.{alike, first_of_here, first_of-next, first_of_[], call_refused, call-passed}
use Rattle.meaning.specs.Check.Laws.{passed}
use Rattle.meaning.specs.Check.Laws.{charted}
use Rattle.meaning.specs.Calls.{made, laid_over, initials, rows_of, run_bytes}
use Rattle.meaning.specs.Calls.Laws.{length-made, get_or-made}
use Rattle.meaning.proofs.Laws.Runs.{Leads, Valid, rows_all}
use Rattle.opening.specs.Opening.{Stands}
use Rattle.opening.specs.declared.Opening.{Opening}
use Rattle.stepping.specs.Step.{config_tests_in}
use Rattle.stepping.specs.Step.Laws.{checked}
use Rattle.running.specs.Run.Laws.{leads, bytes-passed, after_rows}
use Rattle.line.specs.Line.{line_of, file_refused, front_of, day_refusal, inputs_of, lines_of, day_lines, day_of}
use Rattle.line.specs.Line.{day_from}
use Rattle.day.specs.Day.{Accepted, Body, DaySays}

-- ── a text laid over the front of the bytes from `at` up to e ──

-- a text that is the output, laid over a buffer
pub printed : (text out out₀ : List ℕ) (r : ℕ) (whole : List ℕ) → whole ≡ text
    → (r ≡ length text) × (out ≡ laid_over text out₀)
    → (r ≡ length whole) × (out ≡ laid_over whole out₀)
printed text out out₀ r whole e p = rw e p

module _ (l text part : List ℕ) (at e : ℕ) (order : at ≤ e) (to : e ≤ length l)
    (p : part ≡ laid_over text (take (e - at) (drop at l))) (kept : length part ≡ e - at) where
  pub text_fits : length text ≤ e - at
  text_fits = omega (arith, rw (p, length-append, length-drop, length-take, length-drop) at kept)

  laid_is : take at l ++ (part ++ drop (e - at) (drop at l)) ≡ (take at l ++ text) ++ drop (at + length text) l
  laid_is =
      let h : length text ≤ length (take (e - at) (drop at l)) =
      rw (length-take, length-drop) (omega (arith, text_fits)) in
      rw (
        p,
        append_assoc text,
        ← drop-append-le (length text) (take (e - at) (drop at l)) (drop (e - at) (drop at l)) h,
        take-append-drop,
        drop-drop,
        append_assoc,
      )

  front : length (take at l ++ text) ≡ at + length text
  front = rw (length-append, length-take-le at l (omega arith))

  pub text_before : (rest out : List ℕ) → take at l ++ (text ++ rest) ≡ out
      → take (at + length text) (take at l ++ (part ++ drop (e - at) (drop at l))) ++ rest ≡ out
  text_before rest out h =
      rw (laid_is, take_at (take at l ++ text) (drop (at + length text) l) (at + length text) front, append_assoc) h

  pub text_behind : drop (at + length text) (take at l ++ (part ++ drop (e - at) (drop at l)))
      ≡ drop (at + length text) l
  text_behind = rw laid_is (drop_at (take at l ++ text) (drop (at + length text) l) (at + length text) front)

-- ── lines ──

-- the first of the rows that are left gives the next line
pub lines_next : (rows : List ℕ) (w n i at : ℕ) → i < n
    → lines_of w (i + 1) (n - i) (drop at rows)
    ≡ line_of (i + 1) (take w (drop at rows)) ++ lines_of w (i + 1 + 1) (n - (i + 1)) (drop (at + w) rows)
unfolding lines_of
lines_next rows w n i at l =
    let e : n - i ≡ suc (n - (i + 1)) = omega arith in
    rw (e, ← drop-drop w at rows, add-one (i + 1))

-- ── 1 to 11, then 30 ──

module _ (f : List ℕ) where
  abbrev odd-front : Test
  odd-front = record { number = odd_front; applies = differ (front_of f % 8) 0 }

  -- 31 does not apply
  behind-length : length f ≤ 65536 → day_refusal f ≡ first_of (file_tests f ++ (odd-front ∷ []))
  unfolding day_refusal
  behind-length h =
      first_of-next (record { number = input_too_long; applies = ltb most_input (length f) }) _
      (le-ltb most_input (length f) h)

  module _ (h : length f ≤ 65536) where
    pub by-file : (r : ℕ) → r ≡ refusal_of f → (r ≡ 0 → ⊥) → r ≡ day_refusal f
    by-file r e n = e ∙ sym (behind-length h ∙ call_refused f _ (λ z. n (e ∙ z)))

    module _ (a : refusal_of f ≡ 0) where
      pub by_front : (front_of f % 8 ≡ 0 → ⊥) → 30 ≡ day_refusal f
      unfolding same
      by_front n =
          sym (behind-length h ∙ call-passed f _ a ∙ first_of_here odd-front [] (ap not (ne_eqb (front_of f % 8) 0 n)))

      pub by-none : front_of f % 8 ≡ 0 → 0 ≡ day_refusal f
      unfolding same
      by-none e = sym (behind-length h ∙ call-passed f _ a
          ∙ first_of-next odd-front [] (ap not (eq-eqb (front_of f % 8) 0 e)) ∙ first_of_[])

-- the body of a file that passed stands behind the front
module _ (f : List ℕ) (a : refusal_of f ≡ 0) (o : Opening) (s : Stands f o) where
  distance_is : (trailer f).distance ≡ size_of (shape_of (trailer f))
  unfolding distance?
  distance_is = alike _ _ (or_left _ _ (passed f a).distance)

  pub front_is : o.start ≡ front_of f
  unfolding front_of
  front_is =
      let b : length (body_of f) ≡ size_of o.shape = s.sized.holds in
      let d : size_of o.shape ≡ (trailer f).distance = ap size_of s.shape ∙ sym distance_is in
      omega (arith, b, d, s.start)

pub charts_are : (f : List ℕ) (o : Opening) → Stands f o → o.shape.charts ≡ (file_of f).charts
unfolding file_of file_at
charts_are f o s = ap (λ n. n.charts) s.shape

pub leads-of : (f : List ℕ) → refusal_of f ≡ 0 → (o : Opening) → Stands f o → Leads (file_of f)
unfolding file_of
leads-of f a o s =
    leads (shape_of (trailer f)) (body_of f) (checked f (shape_of (trailer f)) (body_of f) a refl refl
    (rw s.shape at s.sized) (rw s.shape at s.summed))

-- ── the first configuration ──

module _ (f : List ℕ) (a : refusal_of f ≡ 0) where
  pub initials-valid : Valid (file_of f) (initials f)
  unfolding initials file_of file_at chart_of
  initials-valid =
      record {
        long = length-made _ _;
        states = λ c l. rw (get_or-made _ (λ d. ((file_of f).chart d).initial) c l)
            (charted (shape_of (trailer f)) (body_of f) (passed f a).charts c l).initial;
      }

  -- the initial states of the body's charts are the first configuration
  first-states : (n : Shape) (b : List ℕ) → Body f n b → made n.charts (λ c. (head_at n b c).initial) ≡ initials f
  unfolding initials file_of file_at chart_of
  first-states n b w = rw (w.shape, w.body)

  -- laid over the front of a buffer
  pub starts : (n : Shape) (b buffer buffer' : List ℕ) → Body f n b → n.charts ≡ (file_of f).charts
      → buffer' ≡ laid_over (made n.charts (λ c. (head_at n b c).initial)) buffer
      → take n.charts buffer' ≡ initials f
  starts n b buffer buffer' w e p =
      rw (p, first-states n b w) (take_at (initials f) _ n.charts (initials-valid.long ∙ sym e))

  -- a run from a valid configuration is not refused
  module _ (config inputs rows : List ℕ) (v : Valid (file_of f) config)
      (l : length inputs * (10 + (file_of f).charts) ≤ length rows) where
    unrefused : first_of (config_tests_in (file_of f) config) ≡ 0
    unfolding config_tests_in same
    unrefused =
        first_of-next _ _ (ap not (eq-eqb (length config) (file_of f).charts v.long))
        ∙ first_of-next _ _ (any-all (file_of f).charts _
        (λ c m. ap not (lt-ltb (get_or config c 0) ((file_of f).chart c).states (v.states c m))))
        ∙ first_of_[]

    pub runs : run_bytes f config ∅ inputs rows ≡ laid_over (rows_of (file_of f) config ∅ inputs) rows
    runs = bytes-passed f config ∅ inputs rows a
        ∙ sym (after_rows (file_of f) config ∅ inputs rows unrefused l _ _ refl refl).1

pub length-inputs : (n : ℕ) (s : List ℕ) → length (inputs_of n s) ≡ n
unfolding inputs_of
length-inputs zero s = refl
length-inputs (suc n) s = ap suc (length-inputs n (drop 8 s))

-- ── the output ──

-- bytes behind the rows are not looked at
pub lines_front : (w k n : ℕ) (rows rest : List ℕ) → n * w ≤ length rows
    → lines_of w k n (rows ++ rest) ≡ lines_of w k n rows
unfolding lines_of
lines_front w k zero rows rest l = refl
lines_front w k (suc n) rows rest l =
    let h : n * w + w ≤ length rows = rw suc-mul at l in
    rw (
      take-append-le w rows rest (omega arith),
      drop-append-le w rows rest (omega arith),
      lines_front w (suc k) n (drop w rows) rest (rw length-drop (omega arith)),
    )

pub rows_fit : (n c : ℕ) → n ≤ 8192 → c ≤ most_charts → n * (10 + c) ≤ 8192 * (10 + most_charts)
rows_fit n c h k =
    let l : n * (10 + c) ≤ 8192 * (10 + c) = mul-le-mul_right (10 + c) h in
    omega arith

module _ (f : List ℕ) where
  pub day_refused : (r : ℕ) → r ≡ day_refusal f → (r ≡ 0 → ⊥) → day_of f ≡ file_refused r
  unfolding day_of same
  day_refused r e h = rw (← e, ne_eqb r 0 h)

  -- the lines of the rows of a run, whatever stands behind them
  pub day-given : (charts n : ℕ) (rows rows₀ : List ℕ) → 0 ≡ day_refusal f → Accepted f charts n → n ≡ front_of f / 8
      → rows ≡ laid_over (rows_of (file_of f) (initials f) ∅ (inputs_of n f)) rows₀
      → day_of f ≡ lines_of (10 + charts) 1 n rows
  unfolding day_of day_lines same
  day-given charts n rows rows₀ e a i p =
      let R = rows_of (file_of f) (initials f) ∅ (inputs_of n f) in
      let l : length R ≡ n * (10 + (file_of f).charts) = rows_all (file_of f) a.leads (record {
        config = initials f;
        carried = ∅;
      }) (inputs_of n f) (initials-valid f a.passes) ∙ rw (length-inputs n f) in
      rw (← e, ← i, a.charts_is, p)
      (sym (lines_front (10 + (file_of f).charts) 1 n R (drop (length R) rows₀) (omega arith)))

-- ── the contract ──

-- any two results that the contract allows are equal
pub day_determined : (s : List ℕ) (behind : ℕ) (b : List ℕ) (r r' : ℕ) (c c' : List ℕ) → DaySays s behind b r c
    → DaySays s behind b r' c' → (r ≡ r') × (c ≡ c')
day_determined s behind b r r' c c' p q = (p.0 ∙ sym q.0, p.1 ∙ sym q.1)

pub from_more : (s : List ℕ) (behind : ℕ) → 0 < behind → day_from s behind ≡ file_refused input_too_long
unfolding day_from
from_more s behind h = rw (lt-ltb 0 behind h)

pub from_all : (s : List ℕ) (behind : ℕ) → behind ≤ 0 → day_from s behind ≡ day_of s
unfolding day_from
from_all s behind h = rw (le-ltb 0 behind h)

-- what is printed is the output for the whole input f, of which 65,536 bytes are read, and one more is asked for
module _ (f : List ℕ) where
  too_long : most_input < length f → day_of f ≡ file_refused input_too_long
  unfolding day_refusal
  too_long h =
      day_refused f input_too_long
      (sym (first_of_here (record { number = input_too_long; applies = ltb most_input (length f) }) _
      (lt-ltb most_input (length f) h)))
      (λ e. omega arith)

  pub day-whole : day_from (take most_input f) (length (take 1 (drop most_input f))) ≡ day_of f
  day-whole = go (dec_lt most_input (length f))
    where
      go : Dec (most_input < length f) → day_from (take most_input f) (length (take 1 (drop most_input f))) ≡ day_of f
      go (yes h) = from_more _ _ (rw (length-take, length-drop) (omega arith)) ∙ sym (too_long h)
      go (no h) =
          from_all (take most_input f) _ (rw (length-take, length-drop) (omega arith))
          ∙ ap day_of (take_all most_input f (omega arith))
