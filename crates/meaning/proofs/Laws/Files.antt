-- Steps and runs of files, as the public calls answer them. In this order: a signal outside the interface changes
-- nothing, in a step (`step-outside`, `places_outside`, `open_outside`) or in a run (`run_outside`, `carried_outside`);
-- the next configuration is valid again (`step-valid`); a run has exactly a row for each input (`run_rows`), each
-- configuration in it is valid (`run_valid`), each row is a step from where the row before it ended (`run_row`); what
-- is carried (`run_given` to `run_last`). What is inactive is in Activity.
use Rattle.std.proofs.Math.Path.{◌≡◌, refl, ap}
use Rattle.std.proofs.Common.{sym, ◌∙◌, suc-mul, arith, length-append, length-drop, drop_at}
use Rattle.std.specs.Prelude.{Bool, get_or, take, drop}
use Rattle.std.proofs.Math.Bool.{true, false, cond}
use mathlib.Core.List.{List, [], ◌∷◌, ◌++◌, map}
use Prim.Native.Nat.{ℕ, zero, suc, ◌+◌, ◌*◌, ◌≤◌, ◌<◌}
use Rattle.std.proofs.Math.Nat.{mul-le-mul_right}
use Rattle.std.proofs.Math.ListN.{length}
use Rattle.std.proofs.lemmas.List.{length-map, take-append-le, drop-append-le}
use Rattle.std.proofs.Math.Seq.{drop-append-add, length-take-le, take-length}
use Rattle.signals.specs.Mask.{◌∪◌, ◌∩◌}
use Rattle.signals.specs.Decide.{sets, A, B, C, D, E, ◌∪ₑ◌, ◌∩ₑ◌, ◌≐◌}
use Rattle.layout.specs.Le.{bytes}
use Rattle.layout.specs.Le.Laws.{length-bytes}
use Rattle.meaning.specs.Numbers.{many_open}
use Rattle.meaning.specs.Sums.{one}
use Rattle.meaning.specs.Meaning.{Set, ∅, same, Answer, refused, given, in_face, answer, first_places}
use Rattle.meaning.specs.File.{File, whole_of, file_of}
use Rattle.meaning.specs.Check.{refusal_of}
use Rattle.meaning.specs.Open.{open_in}
use Rattle.meaning.specs.Calls.{input_of, Valid, outcomes_in, step_refusal, found_in, many_open?, step_in, step_of}
use Rattle.meaning.specs.Calls.{open_for, open_of, all_places}
use Rattle.meaning.specs.Calls.{places_found, places_in, places_of, refusal_in, output_in, mark_in, after_step, row_of}
use Rattle.meaning.specs.Calls.{row_at, config_at, carried_at}
use Rattle.meaning.specs.Calls.{step_at, carried_after, rows_of, carried_of, laid_over, run_refusal, run_bytes}
use Rattle.meaning.specs.Calls.{run_carried}
use Rattle.meaning.specs.Calls.Laws.{step_open, step_allowed, run_open, run_allowed, behind_cong, behind_is}
use Rattle.meaning.specs.Calls.Laws.{answered}
use Rattle.meaning.specs.Laws.Bools.{same→≡}
use Rattle.meaning.proofs.Laws.Demand2.{outside-outcomes}
use Rattle.meaning.proofs.Laws.Runs.{Leads, file-leads, Stand, step_from, stand_at, rows_from, valid-after, rows_all}
use Rattle.meaning.proofs.Laws.Runs.{valid-at, row-at, stand-take, carried_given, carried_refused, carried_last}

-- ── a signal outside the interface changes nothing ──

-- the input interface of a file in order
abbrev face : File → Set
face F = in_face F.chart (whole_of F)

module _ (F : File) where
  in_outside : (config : List ℕ) (i j : Set) → i ∩ face F ≡ j ∩ face F → outcomes_in F config i ≡ outcomes_in F config j
  in_outside config i j e = outside-outcomes F.chart F.state (λ c. get_or config c 0) (whole_of F) i j F.charts e

  joined : (c d i j : Set) → c ∩ face F ≡ d ∩ face F → i ∩ face F ≡ j ∩ face F → (c ∪ i) ∩ face F ≡ (d ∪ j) ∩ face F
  joined c d i j =
      sets (c ∷ d ∷ i ∷ j ∷ face F ∷ []) (A ∩ₑ E ≐ B ∩ₑ E ∷ C ∩ₑ E ≐ D ∩ₑ E ∷ []) ((A ∪ₑ C) ∩ₑ E ≐ (B ∪ₑ D) ∩ₑ E) tt

  carried_alike : (r : Answer) (i j : Set) → i ∩ face F ≡ j ∩ face F
      → carried_after r i ∩ face F ≡ carried_after r j ∩ face F
  carried_alike (refused r) i j e = e
  carried_alike (given o n m) i j e = refl

  -- the rows of two runs, and what they carry then
  abbrev Agrees : List ℕ → Set → Set → List Set → List Set → Type 0
  Agrees config c d is js =
      (rows_of F config c is ≡ rows_of F config d js)
      × (carried_of F config c is ∩ face F ≡ carried_of F config d js ∩ face F)

  rows_outside : (is js : List Set) (config : List ℕ) (c d : Set) → c ∩ face F ≡ d ∩ face F
      → map (λ i. i ∩ face F) is ≡ map (λ j. j ∩ face F) js → Agrees config c d is js
  unfolding rows_of carried_of
  rows_outside [] [] config c d e h = (refl, e)
  rows_outside [] (j ∷ js) config c d e h = absurd (let z : ◌≡◌ {A = ℕ} 0 1 = cc in omega arith)
  rows_outside (i ∷ is) [] config c d e h = absurd (let z : ◌≡◌ {A = ℕ} 0 1 = cc in omega arith)
  rows_outside (i ∷ is) (j ∷ js) config c d e h =
      let q : i ∩ face F ≡ j ∩ face F = cc in
      let t : map (λ i. i ∩ face F) is ≡ map (λ j. j ∩ face F) js = cc in
      let w = joined c d i j e q in
      let s : step_in F config (c ∪ i) ≡ step_in F config (d ∪ j) =
      unfold step_in found_in in
      ap (λ os. cond (many_open? F config) (refused many_open) (answer os)) (in_outside config (c ∪ i) (d ∪ j) w) in
      let r = step_in F config (d ∪ j) in
      let v = carried_alike r (c ∪ i) (d ∪ j) w in
      let u = rows_outside is js (after_step r config) (carried_after r (c ∪ i)) (carried_after r (d ∪ j)) v t in
      (rw s (ap (λ z. row_of r config ++ z) u.0), rw s u.1)

module _ (f : List ℕ) where
  accepted_face : refusal_of f ≡ 0 → input_of f ≡ face (file_of f)
  unfolding input_of
  accepted_face h = behind_is (refusal_of f) _ ∅ h

  -- of a step: its answer, and the places
  module _ (config : List ℕ) (i j : Set) (alike : i ∩ input_of f ≡ j ∩ input_of f) (room : ℕ) where
    all-outside : step_refusal f config room ≡ 0 → outcomes_in (file_of f) config i ≡ outcomes_in (file_of f) config j
    all-outside e = in_outside (file_of f) config i j (rw (accepted_face (step_allowed f config room e).0) at alike)

    pub step-outside : step_of f config i room ≡ step_of f config j room
    unfolding step_of step_in found_in
    step-outside =
        behind_cong (step_refusal f config room) _ _ _
        (λ e. ap (λ os. cond (many_open? (file_of f) config) (refused many_open) (answer os)) (all-outside e))

    pub places_outside : places_of f config i room ≡ places_of f config j room
    unfolding places_of places_in places_found
    places_outside =
        behind_cong (step_refusal f config room) _ _ _
        (λ e. ap (λ os. cond (many_open? (file_of f) config) (all_places []) (all_places (first_places os)))
        (all-outside e))

    pub open_outside : open_of f config i room ≡ open_of f config j room
    unfolding open_of
    open_outside = ap (λ a. open_for a (open_in (file_of f) config)) step-outside

  -- of a run: its rows, and what is carried then is alike again
  module _ (config : List ℕ) (c d : Set) (is js : List Set) (alike : c ∩ input_of f ≡ d ∩ input_of f)
      (all_Alike : map (λ i. i ∩ input_of f) is ≡ map (λ j. j ∩ input_of f) js) where
    as_many : length js ≡ length is
    as_many = sym (length-map js _) ∙ ap length (sym all_Alike) ∙ length-map is _

    agree : (room : ℕ) → run_refusal f config (length is) room ≡ 0 → Agrees (file_of f) config c d is js
    agree room e =
        let q = accepted_face (run_allowed f config (length is) room e).0 in
        rows_outside (file_of f) is js config c d (rw q at alike) (rw q at all_Alike)

    pub run_outside : (rows : List ℕ) → run_bytes f config c is rows ≡ run_bytes f config d js rows
    unfolding run_bytes
    run_outside rows =
        rw as_many (behind_cong (run_refusal f config (length is) (length rows)) _ _ rows
        (λ e. ap (λ z. laid_over z rows) (agree (length rows) e).0))

    pub carried_outside : (room : ℕ)
        → run_carried f config c is room ∩ input_of f ≡ run_carried f config d js room ∩ input_of f
    unfolding run_carried
    carried_outside room = rw as_many (go (same (run_refusal f config (length is) room) 0) refl)
      where
        go : (b : Bool) → same (run_refusal f config (length is) room) 0 ≡ b
            → cond b (carried_of (file_of f) config c is) ∅ ∩ input_of f
            ≡ cond b (carried_of (file_of f) config d js) ∅ ∩ input_of f
        go true e =
            let h = same→≡ (run_refusal f config (length is) room) 0 e in
            rw (accepted_face (run_allowed f config (length is) room h).0) (agree room h).1
        go false e = refl

-- ── the next configuration is valid again ──

pub step-valid : (f config : List ℕ) (i : Set) (room : ℕ) (o : Set) (n : List ℕ) (m : Bool)
    → step_of f config i room ≡ given o n m → Valid (file_of f) n
step-valid f config i room o n m e =
    let w = answered f config i room o n m e in
    rw w.answer_is at (valid-after (file_of f) (file-leads f w.accepted) config i w.valid)

-- ── the rows of a run ──

-- a row that starts below the end of all rows ends there
row_ends : (k n w : ℕ) → k < n → k * w + w ≤ n * w
row_ends k n w l = rw suc-mul at (mul-le-mul_right w l)

row_tail : (r : Answer) (config : List ℕ) → drop 10 (row_of r config) ≡ after_step r config
unfolding row_of
row_tail r config =
    rw (length-bytes 8 (output_in r))
    at (drop-append-add (bytes 8 (output_in r)) (one (mark_in r) ∷ refusal_in r ∷ after_step r config) 2)

module _ (f config : List ℕ) (carried : Set) (inputs : List Set) (rows : List ℕ)
    (h : run_refusal f config (length inputs) (length rows) ≡ 0) where
  abbrev F : File
  F = file_of f

  abbrev w : ℕ
  w = 10 + F.charts

  abbrev start : Stand
  start = record { config = config; carried = carried }

  -- where the run stands after k inputs
  abbrev at : ℕ → Stand
  at k = stand_at F start inputs k

  abbrev left : List ℕ
  left = run_bytes f config carried inputs rows

  abbrev carried_there : ℕ → Set
  carried_there k = carried_at f config carried inputs (length rows) k

  accepted : refusal_of f ≡ 0
  accepted = (run_allowed f config (length inputs) (length rows) h).0

  valid : Valid F config
  valid = (run_allowed f config (length inputs) (length rows) h).1

  room : length inputs * w ≤ length rows
  room = (run_allowed f config (length inputs) (length rows) h).2

  leads : Leads F
  leads = file-leads f accepted

  left_is : left ≡ laid_over (rows_from F start inputs) rows
  unfolding run_bytes
  left_is = behind_is (run_refusal f config (length inputs) (length rows)) _ rows h

  all_rows : length (rows_from F start inputs) ≡ length inputs * w
  all_rows = rows_all F leads start inputs valid

  -- exactly a row for each input: there is room for them, and what stands behind them is as it was
  pub run_rows : (length left ≡ length rows) × (length inputs * w ≤ length left)
      × (drop (length inputs * w) left ≡ drop (length inputs * w) rows)
  run_rows = (
    long,
    rw long room,
    rw left_is (drop_at (rows_from F start inputs) _ (length inputs * w) all_rows ∙ ap (λ n. drop n rows) all_rows),
  )
    where
      long : length left ≡ length rows
      long = rw (left_is, length-append, length-drop, all_rows) (omega (arith, room))

  row_there : (k : ℕ) → k < length inputs → row_at f left k
      ≡ row_of (step_from F (at k) (get_or inputs k 0)) (at k).config
  row_there k l =
      let e = row_ends k (length inputs) w l in
      let q = length-drop (k * w) (rows_from F start inputs) in
      let a = all_rows in
      rw (
        left_is,
        drop-append-le (k * w) (rows_from F start inputs) _ (omega arith),
        take-append-le w (drop (k * w) (rows_from F start inputs)) _ (omega arith),
      )
      (row-at F leads start inputs valid k l)

  config_there : (k : ℕ) → k ≤ length inputs → config_at f config left k ≡ (at k).config
  unfolding stand_at
  config_there zero l = refl
  config_there (suc k) l = ap (drop 10) (row_there k l)
      ∙ row_tail (step_from F (at k) (get_or inputs k 0)) (at k).config

  -- it is valid
  pub run_valid : (k : ℕ) → k ≤ length inputs → Valid F (config_at f config left k)
  run_valid k l = rw (config_there k l) (valid-at F leads start inputs valid k)

  carried_there_lem : (k : ℕ) → k ≤ length inputs → carried_there k ≡ (at k).carried
  unfolding run_carried
  carried_there_lem k l =
      let e : length (take k inputs) ≡ k = length-take-le k inputs l in
      let m = mul-le-mul_right w l in
      let g = room in
      behind_is (run_refusal f config (length (take k inputs)) (length rows)) _ ∅
      (rw e (run_open f config k (length rows) accepted valid (omega arith)))
      ∙ carried_last F leads start (take k inputs) ∙ rw (e, stand-take F leads start inputs k k (omega arith))

  -- step k of the run, from where it stands
  pub step_there : (k : ℕ) → k ≤ length inputs
      → step_at f config carried inputs rows k ≡ step_from F (at k) (get_or inputs k 0)
  unfolding step_at step_of
  step_there k l =
      behind_is (step_refusal f (config_at f config left k) F.charts) _ _
      (step_open f (config_at f config left k) F.charts accepted (run_valid k l) (omega arith))
      ∙ rw (config_there k l, carried_there_lem k l)

  -- row k is the step from where the row before it ended, under input k joined with what is carried there
  pub run_row : (k : ℕ) → k < length inputs
      → row_at f left k ≡ row_of (step_at f config carried inputs rows k) (config_at f config left k)
  run_row k l = row_there k l ∙ rw (step_there k (omega arith), config_there k (omega arith))

  -- a step given carries nothing on; a refused one, all that it was offered
  pub run_given : (k : ℕ) → k < length inputs → (o : Set) (n : List ℕ) (m : Bool)
      → step_at f config carried inputs rows k ≡ given o n m → carried_there (suc k) ≡ ∅
  run_given k l o n m e =
      carried_there_lem (suc k) l ∙ carried_given F leads start inputs k o n m (sym (step_there k (omega arith)) ∙ e)

  pub run_refused : (k : ℕ) → k < length inputs → (r : ℕ)
      → step_at f config carried inputs rows k ≡ refused r → carried_there (suc k) ≡ carried_there k ∪ get_or inputs k 0
  run_refused k l r e =
      carried_there_lem (suc k) l ∙ carried_refused F leads start inputs k r (sym (step_there k (omega arith)) ∙ e)
      ∙ ap (λ c. c ∪ get_or inputs k 0) (sym (carried_there_lem k (omega arith)))

  -- before the first input it is what the run is given, and after the last it is what the run returns
  pub run_first : carried_there 0 ≡ carried
  unfolding stand_at
  run_first = carried_there_lem 0 (omega arith)

  pub run_last : run_carried f config carried inputs (length rows) ≡ carried_there (length inputs)
  run_last = ap (λ is. run_carried f config carried is (length rows)) (sym (take-length inputs))
