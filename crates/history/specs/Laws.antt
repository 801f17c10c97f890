-- Theorems on the posting (RULES 11), in this order: each case in its place, over lists of cases; of a day that is
-- accepted: one row for each case (`rows_fit`, `rows_behind`, `row_posted`, `row_number`), one record for each
-- (`cases_posted`, `case_posted`, `number_rises`); a case alone (`own_row`, `own_case`); posting is the run of one
-- input (`row_is_run`, `carried_is_run`, `config_is_run`); entries in another order or joined beforehand
-- (`alike_refusal`, `alike_cases`, `alike_rows`); days one after another are a run (`days_number`, `days_rows`,
-- `days_carried`).
use Rattle.std.specs.Prelude.{◌≡◌, Bool, true, false, cond, ◌||◌, leb, take, drop}
use Rattle.std.proofs.Math.Path.{refl, sym, ap, ap₂}
use Rattle.std.proofs.Common.{◌∙◌, inl, inr, eq-eqb, ne_eqb, length-append, length-drop, take_at}
use mathlib.Core.List.{List, [], ◌∷◌, ◌++◌, append-nil, append_assoc}
use Prim.Native.Nat.{ℕ, zero, suc, ◌+◌, ◌*◌, ◌≤◌, ◌<◌}
use Rattle.std.proofs.Math.Nat.{suc-mul}
use native.Mathlib.Omega.{arith}
use Rattle.std.proofs.Math.ListN.{length, get_or}
use Rattle.std.proofs.Math.Seq.{drop_at, drop-drop, drop-length}
use Rattle.signals.specs.Mask.{◌∪◌}
use Rattle.signals.specs.Decide.{sets, A, B, C, ◌∪ₑ◌, ◌≐◌}
use Rattle.layout.specs.Le.{bytes}
use Rattle.layout.specs.Le.Laws.{length-bytes}
use Rattle.meaning.specs.Meaning.{Set, same}
use Rattle.meaning.specs.File.{File, file_of}
use Rattle.meaning.specs.Check.{first_of, refusal_of}
use Rattle.meaning.specs.Check.Laws.{eq_or-not}
use Rattle.meaning.specs.Calls.{laid_over, Valid, next_in, after_step, row_of, rows_of}
use Rattle.meaning.specs.Calls.{carried_of, run_refusal, run_bytes, run_carried}
use Rattle.meaning.specs.Calls.Laws.{behind_is, run_open}
use Rattle.meaning.proofs.Laws.Runs.{Stand, rows_all, length-row, file-leads}
use Rattle.meaning.specs.Laws.Bools.{or_swap}
use Rattle.desk.specs.declared.Case.{Case}
use Rattle.desk.specs.declared.Entry.{Entry}
use Rattle.desk.specs.Posting.{config_of, joined, book_tests, outside?, day_tests, post_refusal, answer_to, posted_row}
use Rattle.desk.specs.Posting.{posted_case, rows_from, cases_from, post_cases, post_rows}
use Rattle.desk.specs.Turns.{first_bytes}
use Rattle.desk.proofs.Turns.Posted.{refusal_at, config_valid, len_known, book_passes, each_passes, after-long}
use Rattle.desk.proofs.Turns.Posted.{next-bytes, Accepted, accepted}
use Rattle.history.specs.Words.{mine, Alike, alike_none, alike_on, alike_swap, alike_join, alike_back, alike_then}
use Rattle.history.specs.Words.{posted_at, post_days, DaysPosted, case_rows, arrived}

-- ── each case in its place, over lists of cases ──

cases_long : (F : File) (k : ℕ) (cs : List Case) (es : List Entry) → length (cases_from F k cs es) ≡ length cs
unfolding cases_from
cases_long F k [] es = refl
cases_long F k (c ∷ cs) es = ap suc (cases_long F (suc k) cs es)

from_at : (F : File) (j k : ℕ) (cs : List Case) (es : List Entry) (c : Case) → k < length cs
    → get_or (cases_from F j cs es) k c ≡ posted_case F (get_or cs k c) (joined (j + k) es)
unfolding cases_from
from_at F j k [] es c l = absurd (omega (arith, l))
from_at F j zero (a ∷ as') es c l = let e : j + 0 ≡ j = omega arith in rw e
from_at F j (suc k) (a ∷ as') es c l =
    let e : suc j + k ≡ j + suc k = omega arith in
    rw (← e) (from_at F (suc j) k as' es c (omega (arith, l)))

case_at : (F : File) (k : ℕ) (cs : List Case) (es : List Entry) (c : Case) → k < length cs
    → get_or (cases_from F 0 cs es) k c ≡ posted_case F (get_or cs k c) (joined k es)
case_at F k cs es c l = let e : 0 + k ≡ k = omega arith in rw e at (from_at F 0 k cs es c l)

row_tail : (F : File) (c : Case) (i : Set) → drop 4 (posted_row F c i) ≡ row_of (answer_to F c i) (config_of c)
unfolding posted_row
row_tail F c i = drop_at (bytes 4 (c.last + 1)) (row_of (answer_to F c i) (config_of c)) 4 (length-bytes 4 (c.last + 1))

row-front : (F : File) (c : Case) (i : Set) → take 4 (posted_row F c i) ≡ bytes 4 (c.last + 1)
unfolding posted_row
row-front F c i = take_at (bytes 4 (c.last + 1)) (row_of (answer_to F c i) (config_of c)) 4
    (length-bytes 4 (c.last + 1))

module _ (f : List ℕ) (h : refusal_of f ≡ 0) where
  abbrev F : File
  F = file_of f

  abbrev w : ℕ
  w = 14 + F.charts

  row-long : (c : Case) → refusal_at f (config_of c) ≡ 0 → (i : Set) → length (posted_row F c i) ≡ w
  unfolding posted_row
  row-long c z i =
      let r = length-row (answer_to F c i) (config_of c) F.charts
      (after-long f h c z (c.carried ∪ i) (answer_to F c i) refl) in
      rw (length-append, length-bytes 4 (c.last + 1), r) (omega arith)

  rows_long : (k : ℕ) (cs : List Case) (es : List Entry) → first_of (book_tests f cs) ≡ 0
      → length (rows_from F k cs es) ≡ length cs * w
  unfolding rows_from
  rows_long k [] es e = omega arith
  rows_long k (c ∷ cs) es e =
      let p = book_passes f c cs e in
      rw (length-append, row-long c p.0 (joined k es), rows_long (suc k) cs es p.1, suc-mul) (omega arith)

  -- row k of rows that bytes t stand behind
  rows_at : (j k : ℕ) (cs : List Case) (es : List Entry) (t : List ℕ) (c : Case) → first_of (book_tests f cs) ≡ 0
      → k < length cs
      → take w (drop (k * w) (rows_from F j cs es ++ t)) ≡ posted_row F (get_or cs k c) (joined (j + k) es)
  unfolding rows_from
  rows_at j k [] es t c e l = absurd (omega (arith, l))
  rows_at j zero (a ∷ as') es t c e l =
      let z : j + 0 ≡ j = omega arith in
      let y : 0 * w ≡ 0 = omega arith in
      rw (z, y, append_assoc)
      (take_at (posted_row F a (joined j es)) (rows_from F (suc j) as' es ++ t) w
      (row-long a (book_passes f a as' e).0 (joined j es)))
  rows_at j (suc k) (a ∷ as') es t c e l =
      let p = book_passes f a as' e in
      let z : suc j + k ≡ j + suc k = omega arith in
      let y : suc k * w ≡ w + k * w = rw suc-mul (omega arith) in
      rw (
        y,
        append_assoc,
        ← drop-drop (k * w) w (posted_row F a (joined j es) ++ (rows_from F (suc j) as' es ++ t)),
        drop_at (posted_row F a (joined j es)) (rows_from F (suc j) as' es ++ t) w (row-long a p.0 (joined j es)),
        ← z,
      )
      (rows_at (suc j) k as' es t c p.1 (omega (arith, l)))

  -- the configuration of the new record is where the step leads
  config_next : (c : Case) → refusal_at f (config_of c) ≡ 0 → (i : Set)
      → config_of (posted_case F c i) ≡ after_step (answer_to F c i) (config_of c)
  unfolding posted_case
  config_next c z i =
      ap (λ (n : ℕ). first_bytes n (next_in (answer_to F c i) c.config)) (len_known f h c z)
      ∙ next-bytes f h c z (c.carried ∪ i) (answer_to F c i) refl

-- ── a day that is accepted ──

module _ (f : List ℕ) (cs : List Case) (es : List Entry) (rows : List ℕ)
    (h : post_refusal f cs es (length rows) ≡ 0) where
  abbrev width : ℕ
  width = 14 + (file_of f).charts

  abbrev ok : Accepted f cs es (length rows)
  ok = accepted f cs es (length rows) h

  -- the records and the rows after it
  abbrev records : List Case
  records = post_cases f cs es (length rows)

  abbrev written : List ℕ
  written = post_rows f cs es rows

  records_are : records ≡ cases_from (file_of f) 0 cs es
  unfolding post_cases
  records_are = behind_is (post_refusal f cs es (length rows)) _ cs h

  written_are : written ≡ laid_over (rows_from (file_of f) 0 cs es) rows
  unfolding post_rows
  written_are = behind_is (post_refusal f cs es (length rows)) _ rows h

  -- there is room for a row of each case, and the buffer is as long as before
  pub rows_fit : (length cs * width ≤ length written) × (length written ≡ length rows)
  rows_fit =
      let n = rows_long f ok.file 0 cs es ok.book in
      let l = ok.fits in
      let e : length written ≡ length rows =
      ap length written_are ∙ rw (length-append, length-drop, n) (omega (arith, l)) in
      (omega (arith, l, e), e)

  -- exactly these: behind them all bytes are as they were
  pub rows_behind : drop (length cs * width) written ≡ drop (length cs * width) rows
  rows_behind =
      let n = rows_long f ok.file 0 cs es ok.book in
      ap (drop (length cs * width)) written_are
      ∙ drop_at (rows_from (file_of f) 0 cs es) (drop (length (rows_from (file_of f) 0 cs es)) rows)
      (length cs * width) n
      ∙ ap (λ (m : ℕ). drop m rows) n

  -- as many records as before
  pub cases_posted : length records ≡ length cs
  cases_posted = ap length records_are ∙ cases_long (file_of f) 0 cs es

  module _ (k : ℕ) (c : Case) (l : k < length cs) where
    -- the record of case k before the day
    abbrev own : Case
    own = get_or cs k c

    own-passes : refusal_at f (config_of own) ≡ 0
    own-passes = each_passes f cs ok.book k c l

    -- row k is the row of case k, given or refused
    pub row_posted : posted_at f written k ≡ posted_row (file_of f) own (joined k es)
    row_posted =
        let z : 0 + k ≡ k = omega arith in
        let t = drop (length (rows_from (file_of f) 0 cs es)) rows in
        ap (λ (b : List ℕ). posted_at f b k) written_are ∙ rw z at (rows_at f ok.file 0 k cs es t c ok.book l)

    -- it begins with its number, one higher than that of the row before
    pub row_number : take 4 (posted_at f written k) ≡ bytes 4 (own.last + 1)
    row_number = ap (take 4) row_posted ∙ row-front (file_of f) own (joined k es)

    -- record k is the record of case k, moved on
    pub case_posted : get_or records k c ≡ posted_case (file_of f) own (joined k es)
    case_posted = ap (λ (b : List Case). get_or b k c) records_are ∙ case_at (file_of f) k cs es c l

    pub number_rises : (get_or records k c).last ≡ own.last + 1
    unfolding posted_case
    number_rises = ap (λ (x : Case). x.last) case_posted

    -- ── posting is the run of one input, from the record ──

    own-valid : Valid (file_of f) (config_of own)
    own-valid = config_valid f ok.file (config_of own) own-passes

    run_given : (room : ℕ) → 10 + (file_of f).charts ≤ room → run_refusal f (config_of own) 1 room ≡ 0
    run_given room g = run_open f (config_of own) 1 room ok.file own-valid (omega (arith, g))

    -- the row behind its number, for any buffer that one row fills
    pub row_is_run : (row : List ℕ) → length row ≡ 10 + (file_of f).charts
        → drop 4 (posted_at f written k) ≡ run_bytes f (config_of own) own.carried (joined k es ∷ []) row
    unfolding run_bytes rows_of
    row_is_run row g =
        let r = answer_to (file_of f) own (joined k es) in
        let n : length (row_of r (config_of own)) ≡ length row =
        length-row r (config_of own) (file_of f).charts
        (after-long f ok.file own own-passes (own.carried ∪ joined k es) r refl) ∙ sym g in
        ap (drop 4) row_posted ∙ row_tail (file_of f) own (joined k es)
        ∙ sym (behind_is (run_refusal f (config_of own) 1 (length row)) _ row
        (run_given (length row) (omega (arith, g)))
        ∙ rw (append-nil (row_of r (config_of own)), n, drop-length row) (append-nil (row_of r (config_of own))))

    -- what is carried on
    pub carried_is_run : (room : ℕ) → 10 + (file_of f).charts ≤ room
        → (get_or records k c).carried ≡ run_carried f (config_of own) own.carried (joined k es ∷ []) room
    unfolding run_carried carried_of posted_case
    carried_is_run room g =
        ap (λ (x : Case). x.carried) case_posted
        ∙ sym (behind_is (run_refusal f (config_of own) 1 room) _ _ (run_given room g))

    -- the new configuration is what the row ends with
    pub config_is_run : config_of (get_or records k c)
        ≡ after_step (answer_to (file_of f) own (joined k es)) (config_of own)
    config_is_run = ap config_of case_posted ∙ config_next f ok.file own own-passes (joined k es)

-- ── a case alone ──

-- only its own entries count
joined-mine : (k : ℕ) (es : List Entry) → joined k (mine k es) ≡ joined k es
unfolding joined mine same
joined-mine k [] = refl
joined-mine k (e ∷ es) = elim (eq_or-not e.number k) [
  | inl z ↦ rw (eq-eqb e.number k z, eq-eqb e.number k z, joined-mine k es)
  | inr z ↦ rw (ne_eqb e.number k z) (joined-mine k es)
]

own-joined : (k : ℕ) (es es' : List Entry) → mine k es ≡ mine k es' → joined k es ≡ joined k es'
own-joined k es es' e = sym (joined-mine k es) ∙ ap (joined k) e ∙ joined-mine k es'

-- two books of one chart file and two days, all accepted, that agree on the record of case k and on its own entries,
-- whatever else they hold: its row has the same bytes in both, and its new record is the same
module _ (f : List ℕ) (cs cs' : List Case) (es es' : List Entry) (rows rows' : List ℕ)
    (h : post_refusal f cs es (length rows) ≡ 0) (h' : post_refusal f cs' es' (length rows') ≡ 0)
    (k : ℕ) (c : Case) (l : k < length cs) (l' : k < length cs') (e : get_or cs k c ≡ get_or cs' k c)
    (g : mine k es ≡ mine k es') where
  pub own_row : posted_at f (post_rows f cs es rows) k ≡ posted_at f (post_rows f cs' es' rows') k
  own_row =
      row_posted f cs es rows h k c l ∙ ap₂ (posted_row (file_of f)) e (own-joined k es es' g)
      ∙ sym (row_posted f cs' es' rows' h' k c l')

  pub own_case : get_or (post_cases f cs es (length rows)) k c ≡ get_or (post_cases f cs' es' (length rows')) k c
  own_case =
      case_posted f cs es rows h k c l ∙ ap₂ (posted_case (file_of f)) e (own-joined k es es' g)
      ∙ sym (case_posted f cs' es' rows' h' k c l')

-- ── entries in another order, or joined beforehand ──

swap_joined : (t u : Bool) (a b r : Set)
    → cond t (a ∪ cond u (b ∪ r) r) (cond u (b ∪ r) r) ≡ cond u (b ∪ cond t (a ∪ r) r) (cond t (a ∪ r) r)
swap_joined true true a b r = sets (a ∷ b ∷ r ∷ []) [] (A ∪ₑ (B ∪ₑ C) ≐ B ∪ₑ (A ∪ₑ C)) tt
swap_joined true false a b r = refl
swap_joined false true a b r = refl
swap_joined false false a b r = refl

both-joined : (t : Bool) (a b r : Set) → cond t (a ∪ cond t (b ∪ r) r) (cond t (b ∪ r) r) ≡ cond t ((a ∪ b) ∪ r) r
both-joined true a b r = sets (a ∷ b ∷ r ∷ []) [] (A ∪ₑ (B ∪ₑ C) ≐ (A ∪ₑ B) ∪ₑ C) tt
both-joined false a b r = refl

or-both : (a c : Bool) → (a || (a || c)) ≡ (a || c)
or-both true c = refl
or-both false c = refl

alike_joined : (k : ℕ) (es fs : List Entry) → Alike es fs → joined k es ≡ joined k fs
unfolding joined
alike_joined k _ _ alike_none = refl
alike_joined k _ _ (alike_on e {es} {fs} p) = rw (alike_joined k es fs p)
alike_joined k _ _ (alike_swap a b es) =
    swap_joined (same a.number k) (same b.number k) a.signals b.signals (joined k es)
alike_joined k _ _ (alike_join a b es e) =
    rw (← e) (both-joined (same a.number k) a.signals b.signals (joined k es))
alike_joined k _ _ (alike_back {es} {fs} p) = sym (alike_joined k es fs p)
alike_joined k _ _ (alike_then {es} {fs} {gs} p q) = alike_joined k es fs p ∙ alike_joined k fs gs q

alike_outside : (n : ℕ) (es fs : List Entry) → Alike es fs → outside? n es ≡ outside? n fs
unfolding outside?
alike_outside n _ _ alike_none = refl
alike_outside n _ _ (alike_on e {es} {fs} p) = rw (alike_outside n es fs p)
alike_outside n _ _ (alike_swap a b es) = or_swap (leb n a.number) (leb n b.number) (outside? n es)
alike_outside n _ _ (alike_join a b es e) = rw (← e) (or-both (leb n a.number) (outside? n es))
alike_outside n _ _ (alike_back {es} {fs} p) = sym (alike_outside n es fs p)
alike_outside n _ _ (alike_then {es} {fs} {gs} p q) = alike_outside n es fs p ∙ alike_outside n fs gs q

-- refused or not, such days have the same refusal, the same records and the same bytes
module _ (f : List ℕ) (cs : List Case) (es fs : List Entry) (p : Alike es fs) where
  pub alike_refusal : (room : ℕ) → post_refusal f cs es room ≡ post_refusal f cs fs room
  unfolding post_refusal day_tests
  alike_refusal room = rw (alike_outside (length cs) es fs p)

  cases_alike : (F : File) (k : ℕ) (xs : List Case) → cases_from F k xs es ≡ cases_from F k xs fs
  unfolding cases_from
  cases_alike F k [] = refl
  cases_alike F k (x ∷ xs) = rw (alike_joined k es fs p, cases_alike F (suc k) xs)

  rows_alike : (F : File) (k : ℕ) (xs : List Case) → rows_from F k xs es ≡ rows_from F k xs fs
  unfolding rows_from
  rows_alike F k [] = refl
  rows_alike F k (x ∷ xs) = rw (alike_joined k es fs p, rows_alike F (suc k) xs)

  pub alike_cases : (room : ℕ) → post_cases f cs es room ≡ post_cases f cs fs room
  unfolding post_cases
  alike_cases room = rw (alike_refusal room, cases_alike (file_of f) 0 cs)

  pub alike_rows : (rows : List ℕ) → post_rows f cs es rows ≡ post_rows f cs fs rows
  unfolding post_rows
  alike_rows rows = rw (alike_refusal (length rows), rows_alike (file_of f) 0 cs)

-- ── days one after another ──

module _ (f : List ℕ) (rows : List ℕ) (k : ℕ) (c : Case) where
  -- the rows of case k, day by day, are those of the run over what arrived for it, in the records' own terms
  rows_run : (days : List (List Entry)) (cs : List Case) → DaysPosted f cs days rows → k < length cs
      → case_rows f cs days rows k ≡ rows_of (file_of f) (config_of (get_or cs k c)) (get_or cs k c).carried
      (arrived k days)
  unfolding DaysPosted case_rows rows_of arrived posted_case
  rows_run [] cs p l = refl
  rows_run (day ∷ days) cs p l =
      let own = get_or cs k c in
      let next = post_cases f cs day (length rows) in
      let case_is = case_posted f cs day rows p.0 k c l in
      let config-is = config_is_run f cs day rows p.0 k c l in
      let carried-is = ap (λ (x : Case). x.carried) case_is in
      ap₂ (λ (a b : List ℕ). a ++ b)
      (ap (drop 4) (row_posted f cs day rows p.0 k c l) ∙ row_tail (file_of f) own (joined k day))
      (rows_run days next p.1 (rw (cases_posted f cs day rows p.0) l)
      ∙ ap₂ (λ (a : List ℕ) (b : Set). rows_of (file_of f) a b (arrived k days)) config-is carried-is)

  carried_run_lem : (days : List (List Entry)) (cs : List Case) → DaysPosted f cs days rows → k < length cs
      → (get_or (post_days f cs days rows) k c).carried
      ≡ carried_of (file_of f) (config_of (get_or cs k c)) (get_or cs k c).carried (arrived k days)
  unfolding DaysPosted post_days carried_of arrived posted_case
  carried_run_lem [] cs p l = refl
  carried_run_lem (day ∷ days) cs p l =
      let next = post_cases f cs day (length rows) in
      let config-is = config_is_run f cs day rows p.0 k c l in
      let carried-is = ap (λ (x : Case). x.carried) (case_posted f cs day rows p.0 k c l) in
      carried_run_lem days next p.1 (rw (cases_posted f cs day rows p.0) l)
      ∙ ap₂ (λ (a : List ℕ) (b : Set). carried_of (file_of f) a b (arrived k days)) config-is carried-is

  -- each day has one row for it: its number rises by as many as there are days
  pub days_number : (days : List (List Entry)) (cs : List Case) → DaysPosted f cs days rows → k < length cs
      → (get_or (post_days f cs days rows) k c).last ≡ (get_or cs k c).last + length days
  unfolding DaysPosted post_days
  days_number [] cs p l = omega arith
  days_number (day ∷ days) cs p l =
      let n = number_rises f cs day rows p.0 k c l in
      let m = days_number days (post_cases f cs day (length rows)) p.1 (rw (cases_posted f cs day rows p.0) l) in
      omega (arith, n, m)

  arrived-long : (days : List (List Entry)) → length (arrived k days) ≡ length days
  unfolding arrived
  arrived-long [] = refl
  arrived-long (day ∷ days) = ap suc (arrived-long days)

  -- a list of days, at least one, of which none is refused
  module _ (day : List Entry) (days : List (List Entry)) (cs : List Case) (p : DaysPosted f cs (day ∷ days) rows)
      (l : k < length cs) where
    abbrev first : Case
    first = get_or cs k c

    abbrev inputs : List Set
    inputs = arrived k (day ∷ days)

    begun : post_refusal f cs day (length rows) ≡ 0
    unfolding DaysPosted
    begun = p.0

    file-passes : refusal_of f ≡ 0
    file-passes = (accepted f cs day (length rows) begun).file

    first-valid : Valid (file_of f) (config_of first)
    first-valid = own-valid f cs day rows begun k c l

    run_passes : (room : ℕ) → length inputs * (10 + (file_of f).charts) ≤ room
        → run_refusal f (config_of first) (length inputs) room ≡ 0
    run_passes room g = run_open f (config_of first) (length inputs) room file-passes first-valid g

    -- its rows, day by day, are the bytes that the run over what arrived for it writes to a buffer that they fill
    pub days_rows : (buffer : List ℕ) → length buffer ≡ length inputs * (10 + (file_of f).charts)
        → case_rows f cs (day ∷ days) rows k ≡ run_bytes f (config_of first) first.carried inputs buffer
    unfolding run_bytes
    days_rows buffer g =
        let R = rows_of (file_of f) (config_of first) first.carried inputs in
        let s : Stand = record { config = config_of first; carried = first.carried } in
        let n : length R ≡ length buffer =
        rows_all (file_of f) (file-leads f file-passes) s inputs first-valid ∙ sym g in
        rows_run (day ∷ days) cs p l
        ∙ sym (behind_is (run_refusal f (config_of first) (length inputs) (length buffer)) _ buffer
        (run_passes (length buffer) (omega (arith, g)))
        ∙ rw (n, drop-length buffer) (append-nil R))

    -- and what it carries after them is what that run returns
    pub days_carried : (room : ℕ) → length inputs * (10 + (file_of f).charts) ≤ room
        → (get_or (post_days f cs (day ∷ days) rows) k c).carried
        ≡ run_carried f (config_of first) first.carried inputs room
    unfolding run_carried
    days_carried room g =
        carried_run_lem (day ∷ days) cs p l
        ∙ sym (behind_is (run_refusal f (config_of first) (length inputs) room) _ _ (run_passes room g))
