-- Laws of the run, in this order: the call's list behind 1 to 11; 20, 21 and 27; a checked body's transitions lead to
-- states of their charts; a row laid over a part of a buffer; one row more, and the last.
use Rattle.std.specs.Prelude.{◌≡◌, ℕ, ◌+◌, ◌*◌, ◌-◌, ◌/◌, ◌≤◌, ◌<◌, ltb, length, get_or, drop, Ok, Err}
use Rattle.std.proofs.Math.Path.{sym}
use Rattle.std.proofs.Common.{◌∙◌, le_trans, suc-mul, mul-le-mul_right, le-div_iff_mul-le, div-lt_iff_lt-mul, add-one}
use Rattle.std.proofs.Common.{arith, length-append, length-drop, take-append-drop, take_at, drop_at, length-take-le}
use Rattle.std.proofs.Common.{drop-drop}
use mathlib.Core.List.{List, [], ◌∷◌, ◌++◌, append_assoc, append-nil}
use borrow.Author.Tests.{ne_eqb, lt-ltb, le-ltb}
use Rattle.std.proofs.Math.ListN.{take}
use Rattle.std.proofs.Math.Seq.{drop-length}
use Rattle.layout.specs.declared.body.Shape.{Shape}
use Rattle.meaning.specs.Numbers.{short_rows}
use Rattle.meaning.specs.Meaning.{Set, ∅, same, Answer}
use Rattle.meaning.specs.File.{File, file_at, file_of}
use Rattle.meaning.specs.Check.{Test, first_of, refusal_of}
use Rattle.meaning.specs.Check.Laws.{first_of_++, first_of-before, first_of_here, first_of-next, first_of_[]}
use Rattle.meaning.specs.Calls.{laid_over, row_of, rows_of, carried_of, run_refusal, run_bytes, run_carried}
use Rattle.meaning.proofs.Laws.Runs.{Leads, body-leads, Stand, step_from, stand_after, rows_from, carried_from}
use Rattle.meaning.proofs.Laws.Runs.{rows_next, carried_next}
use Rattle.checks.specs.Refusals.{number}
use Rattle.checks.specs.declared.refusal.Refusal.{Refusal}
use Rattle.stepping.specs.Step.{config_tests_in, Checked}
use Rattle.stepping.specs.Step.Laws.{behind_refused, behind-passed, config_passes}
use Rattle.running.specs.Run.{run_refusal_after, run_after, carried_run, BodyRuns}

-- ── behind 1 to 11 ──

module _ (f config : List ℕ) (carried : Set) (inputs : List Set) (rows : List ℕ) where
  pub run_refused : (refusal_of f ≡ 0 → ⊥) → run_refusal f config (length inputs) (length rows) ≡ refusal_of f
  unfolding run_refusal
  run_refused h = behind_refused f config _ h

  pub bytes_refused : (refusal_of f ≡ 0 → ⊥) → run_bytes f config carried inputs rows ≡ rows
  unfolding run_bytes same
  bytes_refused h = rw (run_refused h, ne_eqb (refusal_of f) 0 h)

  pub none_carried : (refusal_of f ≡ 0 → ⊥) → run_carried f config carried inputs (length rows) ≡ ∅
  unfolding run_carried same
  none_carried h = rw (run_refused h, ne_eqb (refusal_of f) 0 h)

  pub run_passed : refusal_of f ≡ 0 → run_refusal f config (length inputs) (length rows)
      ≡ run_refusal_after (file_of f) config (length inputs) (length rows)
  unfolding run_refusal run_refusal_after
  run_passed h = behind-passed f config _ h

  pub bytes-passed : refusal_of f ≡ 0
      → run_bytes f config carried inputs rows ≡ run_after (file_of f) config carried inputs rows
  unfolding run_bytes run_after
  bytes-passed h = rw (run_passed h)

  pub carried_passed : refusal_of f ≡ 0
      → run_carried f config carried inputs (length rows) ≡ carried_run (file_of f) config carried inputs (length rows)
  unfolding run_carried carried_run
  carried_passed h = rw (run_passed h)

-- ── 20, 21 and 27 ──

module _ (F : File) (config : List ℕ) (carried : Set) (inputs : List Set) (rows : List ℕ) where
  -- 27
  abbrev rows_test : Test
  rows_test = record { number = short_rows; applies = ltb (length rows) (length inputs * (10 + F.charts)) }

  -- the refusal is r, and the rows are left
  abbrev pub Refuses : ℕ → Type 0
  Refuses n = (r : Refusal) → number r ≡ n → BodyRuns F config carried inputs rows (Err r) rows

  refuses : (n : ℕ) → (n ≡ 0 → ⊥) → run_refusal_after F config (length inputs) (length rows) ≡ n → Refuses n
  unfolding run_after same
  refuses n h e r q = (rw e q, rw (e, ne_eqb n 0 h))

  pub after_config : (first_of (config_tests_in F config) ≡ 0 → ⊥) → Refuses (first_of (config_tests_in F config))
  unfolding run_refusal_after
  after_config h = refuses _ h (first_of-before (config_tests_in F config) _ h)

  -- the configuration is accepted
  module _ (h : first_of (config_tests_in F config) ≡ 0) where
    pub after_room : length rows < length inputs * (10 + F.charts) → Refuses short_rows
    unfolding run_refusal_after
    after_room l =
        refuses short_rows (λ e. omega arith)
        (first_of_++ (config_tests_in F config) (rows_test ∷ []) (config_passes F config h)
        ∙ first_of_here rows_test [] (lt-ltb (length rows) _ l))

    module _ (l : length inputs * (10 + F.charts) ≤ length rows) where
      after_none : run_refusal_after F config (length inputs) (length rows) ≡ 0
      unfolding run_refusal_after
      after_none =
          first_of_++ (config_tests_in F config) (rows_test ∷ []) (config_passes F config h)
          ∙ first_of-next rows_test [] (le-ltb (length rows) _ l)
          ∙ first_of_[]

      pub after_rows : (rows' : List ℕ) (c : Set) → rows' ≡ laid_over (rows_of F config carried inputs) rows
          → c ≡ carried_of F config carried inputs
          → BodyRuns F config carried inputs rows (Ok c) rows'
      unfolding run_after carried_run same
      after_rows rows' c e q = ((after_none, rw (after_none, q)), rw (after_none, e))

-- ── transitions lead to states of their chart ──

pub leads : (n : Shape) (b : List ℕ) → Checked n b → Leads (file_at n b)
leads n b k = body-leads n b k.transitions

-- ── a row laid over the bytes from `at` up to e: what stands before e, and after it ──

abbrev pub laid : List ℕ → List ℕ → ℕ → ℕ → List ℕ
laid l row at e = take at l ++ (row ++ drop (e - at) (drop at l))

module _ (l row : List ℕ) (at e : ℕ) (from_at : at ≤ e) (to : e ≤ length l) (wide : length row ≡ e - at) where
  front : length (take at l ++ row) ≡ e
  front = rw (length-append, length-take-le at l (omega arith), wide) (omega arith)

  pub laid-after : drop e (laid l row at e) ≡ drop e l
  laid-after =
      let q : at + (e - at) ≡ e = omega arith in
      rw (← append_assoc) (drop_at (take at l ++ row) (drop (e - at) (drop at l)) e front ∙ rw (drop-drop, q))

  pub laid-length : length (laid l row at e) ≡ length l
  laid-length = simp (length-append, length-take-le at l (omega arith), wide, length-drop) (omega arith)

  pub laid-before : (rest out : List ℕ) → take at l ++ (row ++ rest) ≡ out → take e (laid l row at e) ++ rest ≡ out
  laid-before rest out h =
      let q : take e (laid l row at e) ≡ take at l ++ row =
      rw (← append_assoc) (take_at (take at l ++ row) (drop (e - at) (drop at l)) e front) in
      rw (q, append_assoc) h

-- ── one row more, and the last ──

module _ (F : File) (inputs : List Set) where
  -- input i gives row r and leads from the stand s to t
  module _ (s t : Stand) (row : List ℕ) (r : Answer) (i : ℕ) (l : i < length inputs)
      (e : r ≡ step_from F s (get_or inputs i 0))
      (q : t ≡ stand_after r s (get_or inputs i 0)) where
    pub run_step : row ≡ row_of r s.config → row ++ rows_from F t (drop (i + 1) inputs) ≡ rows_from F s (drop i inputs)
    run_step p = rw (p, q, e, add-one) (sym (rows_next F s inputs i l))

    pub carry_step : carried_from F t (drop (i + 1) inputs) ≡ carried_from F s (drop i inputs)
    carry_step = rw (q, e, add-one) (sym (carried_next F s inputs i l))

  pub run_done : (start s : Stand) (rows rows₀ : List ℕ) (i at : ℕ) → i ≡ length inputs
      → length (rows_from F start inputs) ≡ at
      → take at rows ++ rows_from F s (drop i inputs) ≡ rows_from F start inputs → drop at rows ≡ drop at rows₀
      → rows ≡ laid_over (rows_from F start inputs) rows₀
  unfolding rows_of
  run_done start s rows rows₀ i at e w h g =
      let k : take at rows ≡ rows_from F start inputs =
      sym (append-nil (take at rows)) ∙ rw (e, drop-length inputs) at h in
      rw (w, ← k, ← g) (sym (take-append-drop at rows))

  pub carry_done : (start s : Stand) (i : ℕ) → i ≡ length inputs
      → carried_from F s (drop i inputs) ≡ carried_from F start inputs
      → s.carried ≡ carried_from F start inputs
  unfolding carried_of
  carry_done start s i e h = rw (e, drop-length inputs) at h

-- one more row fits
pub next_row : (i n w l : ℕ) → i < n → n * w ≤ l → i * w + w ≤ l
next_row i n w l h k = le_trans (rw suc-mul at (mul-le-mul_right w h)) k

pub next-at : (i w : ℕ) → (i + 1) * w ≡ i * w + w
next-at i w = rw add-one (suc-mul i w)

pub room : (n w l : ℕ) → 0 < w → n ≤ l / w → n * w ≤ l
room n w l p h = (le-div_iff_mul-le p).0 h

pub no_room : (n w l : ℕ) → 0 < w → l / w < n → l < n * w
no_room n w l p h = (div-lt_iff_lt-mul p).0 h
