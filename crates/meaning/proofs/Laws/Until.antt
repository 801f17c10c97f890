-- Two files whose steps agree as long as neither is refused with one number: then so do their runs, up to the first
-- step at which either is. In this order: steps, where each file refuses with that number by a test of its own
-- (`step_until`); a run as its first k rows and what is left of it (`rows_split`); of runs, where they stand after k
-- steps (`stand_until`), their rows (`rows_until`, `run_until`) and what they carry (`carried_until`); that the second
-- run comes as far as the first, if each step of the first file that is not refused so is the second's too
-- (`far_where`); the same as the calls answer it: a step (`same-step_until`), the bytes and the set that `run` leaves
-- (`same_rows_until`, `same_run_until`, `same_carried_until`); and all of them with only the first file's refusals in
-- the way (`same-step_where` and so on).
use Rattle.std.specs.Prelude.{◌≡◌, Bool, ◌≢◌, length, get_or, take, drop}
use Rattle.std.proofs.Math.Path.{refl, ap, ap₂, subst}
use Rattle.std.proofs.Common.{sym, ◌∙◌, suc-mul, arith, length-append, take_at}
use Rattle.std.proofs.Math.Bool.{true, false, cond}
use mathlib.Core.List.{List, [], ◌++◌, append_assoc, append-nil}
use Prim.Native.Nat.{ℕ, zero, suc, ◌+◌, ◌*◌, ◌≤◌, ◌<◌}
use Rattle.std.proofs.Math.Seq.{drop-length}
use Rattle.signals.specs.Mask.{◌∪◌}
use Rattle.meaning.specs.Meaning.{Set, ∅, same, Answer, refused}
use Rattle.meaning.specs.File.{File, file_of}
use Rattle.meaning.specs.Calls.{laid_over, step_refusal, step_in, step_of, run_refusal, row_of, rows_of, run_bytes}
use Rattle.meaning.specs.Calls.{run_carried}
use Rattle.meaning.specs.Calls.Laws.{step_allowed, run_allowed, behind_cong}
use Rattle.meaning.specs.Words.{AgreeUnless, Until}
use Rattle.meaning.specs.Laws.Bools.{same→≡}
use Rattle.meaning.proofs.Laws.Runs.{Valid, Leads, Stand, step_from, stand_after, stand_at, rows_from, carried_from}
use Rattle.meaning.proofs.Laws.Runs.{file-leads, rows_next, carried_last, length-next, valid-at}
use Rattle.meaning.proofs.Laws.Files.{step_there}

-- ── steps ──

-- each file has a test of its own by which it refuses with r before it searches
pub step_until : (r : ℕ) (x y : Bool) (a b : Answer) → b ≡ a
    → AgreeUnless r (cond x (refused r) a) (cond y (refused r) b)
step_until r true y a b e p q = absurd (p refl)
step_until r false true a b e p q = absurd (q refl)
step_until r false false a b e p q = e

-- the steps of two files agree, unless one is refused with r
abbrev pub StepsAgreeUnless : ℕ → File → File → Type 0
StepsAgreeUnless r F F' =
    (config : List ℕ) → Valid F config → (i : Set) → AgreeUnless r (step_in F config i) (step_in F' config i)

-- ── a run: its first rows, and what is left of it ──

unfoldable first_rows : File → Stand → List Set → ℕ → List ℕ
first_rows F s inputs zero = []
first_rows F s inputs (suc k) =
    first_rows F s inputs k
    ++ row_of (step_from F (stand_at F s inputs k) (get_or inputs k 0)) (stand_at F s inputs k).config

rows_split : (F : File) (s : Stand) (inputs : List Set) (k : ℕ) → k ≤ length inputs
    → rows_from F s inputs ≡ first_rows F s inputs k ++ rows_from F (stand_at F s inputs k) (drop k inputs)
unfolding first_rows stand_at
rows_split F s inputs zero l = refl
rows_split F s inputs (suc k) l =
    let t = stand_at F s inputs k in
    rows_split F s inputs k (omega arith)
    ∙ ap (λ z. first_rows F s inputs k ++ z) (rows_next F t inputs k l)
    ∙ sym (append_assoc (first_rows F s inputs k) (row_of (step_from F t (get_or inputs k 0)) t.config) _)

length-first : (F : File) → Leads F → (s : Stand) (inputs : List Set) → Valid F s.config → (k : ℕ)
    → length (first_rows F s inputs k) ≡ k * (10 + F.charts)
unfolding first_rows
length-first F leads s inputs v zero = omega arith
length-first F leads s inputs v (suc k) =
    let t = stand_at F s inputs k in
    rw (
      length-append,
      length-first F leads s inputs v k,
      length-next F leads t.config (t.carried ∪ get_or inputs k 0) (valid-at F leads s inputs v k),
      suc-mul,
    )
    (omega arith)

-- ── two runs ──

-- a run is not refused with r in its first k steps, each from where it stands then
abbrev pub Far : ℕ → File → Stand → List Set → ℕ → Type 0
Far r F s inputs k = (j : ℕ) → j < k → step_from F (stand_at F s inputs j) (get_or inputs j 0) ≢ refused r

module _ (r : ℕ) (F F' : File) (leads : Leads F) (agree : StepsAgreeUnless r F F') (s : Stand) (inputs : List Set)
    (v : Valid F s.config) where
  -- step k, where both stand alike
  step-at : (k : ℕ) → stand_at F' s inputs k ≡ stand_at F s inputs k
      → step_from F (stand_at F s inputs k) (get_or inputs k 0) ≢ refused r
      → step_from F' (stand_at F' s inputs k) (get_or inputs k 0) ≢ refused r
      → step_from F' (stand_at F' s inputs k) (get_or inputs k 0)
      ≡ step_from F (stand_at F s inputs k) (get_or inputs k 0)
  step-at k e p q =
      let t = stand_at F s inputs k in
      let moved = ap (λ u. step_from F' u (get_or inputs k 0)) e in
      moved
      ∙ agree t.config (valid-at F leads s inputs v k) (t.carried ∪ get_or inputs k 0) p (λ z. q (moved ∙ z))

  -- both have the same configuration and carry the same
  pub stand_until : (k : ℕ) → Far r F s inputs k → Far r F' s inputs k → stand_at F' s inputs k ≡ stand_at F s inputs k
  unfolding stand_at
  stand_until zero b b' = refl
  stand_until (suc k) b b' =
      let e = stand_until k (λ j l. b j (omega arith)) (λ j l. b' j (omega arith)) in
      ap₂ (λ a u. stand_after a u (get_or inputs k 0)) (step-at k e (b k (omega arith)) (b' k (omega arith))) e

  first_until : (k : ℕ) → Far r F s inputs k → Far r F' s inputs k → first_rows F' s inputs k ≡ first_rows F s inputs k
  unfolding first_rows
  first_until zero b b' = refl
  first_until (suc k) b b' =
      let e = stand_until k (λ j l. b j (omega arith)) (λ j l. b' j (omega arith)) in
      ap₂ ◌++◌ (first_until k (λ j l. b j (omega arith)) (λ j l. b' j (omega arith)))
      (ap₂ (λ a u. row_of a u.config) (step-at k e (b k (omega arith)) (b' k (omega arith))) e)

  -- their first k rows are the same, whatever stands behind them
  pub rows_until : (k : ℕ) → k ≤ length inputs → Far r F s inputs k → Far r F' s inputs k → (behind behind' : List ℕ)
      → take (k * (10 + F.charts)) (rows_from F' s inputs ++ behind')
      ≡ take (k * (10 + F.charts)) (rows_from F s inputs ++ behind)
  rows_until k l b b' behind behind' =
      front F' behind' (ap length (first_until k b b') ∙ long) ∙ first_until k b b' ∙ sym (front F behind long)
    where
      long : length (first_rows F s inputs k) ≡ k * (10 + F.charts)
      long = length-first F leads s inputs v k

      front : (G : File) (xs : List ℕ) → length (first_rows G s inputs k) ≡ k * (10 + F.charts)
          → take (k * (10 + F.charts)) (rows_from G s inputs ++ xs) ≡ first_rows G s inputs k
      front G xs h =
          rw (rows_split G s inputs k l, append_assoc)
          (take_at (first_rows G s inputs k) _ (k * (10 + F.charts)) h)

  -- all rows are, where no step is refused so
  pub run_until : Far r F s inputs (length inputs) → Far r F' s inputs (length inputs)
      → rows_from F' s inputs ≡ rows_from F s inputs
  run_until b b' = all_rows F' ∙ first_until (length inputs) b b' ∙ sym (all_rows F)
    where
      all_rows : (G : File) → rows_from G s inputs ≡ first_rows G s inputs (length inputs)
      all_rows G =
          rows_split G s inputs (length inputs) (omega arith)
          ∙ ap (λ z. first_rows G s inputs (length inputs) ++ rows_from G (stand_at G s inputs (length inputs)) z)
          (drop-length inputs)
          ∙ unfold rows_of in append-nil (first_rows G s inputs (length inputs))

  -- and what they carry after the last input
  pub carried_until : Leads F' → Far r F s inputs (length inputs) → Far r F' s inputs (length inputs)
      → carried_from F' s inputs ≡ carried_from F s inputs
  carried_until leads' b b' =
      carried_last F' leads' s inputs ∙ ap (λ u. u.carried) (stand_until (length inputs) b b')
      ∙ sym (carried_last F leads s inputs)

-- each step of F that is not refused with r is that of F' too
abbrev pub StepsAgreeWhere : ℕ → File → File → Type 0
StepsAgreeWhere r F F' =
    (config : List ℕ) → Valid F config → (i : Set) → step_in F config i ≢ refused r
    → step_in F' config i ≡ step_in F config i

pub agree_unless : (r : ℕ) (F F' : File) → StepsAgreeWhere r F F' → StepsAgreeUnless r F F'
agree_unless r F F' agree config v i p q = agree config v i p

module _ (r : ℕ) (F F' : File) (leads : Leads F) (agree : StepsAgreeWhere r F F') (s : Stand) (inputs : List Set)
    (v : Valid F s.config) where
  step_where : (k : ℕ) → stand_at F' s inputs k ≡ stand_at F s inputs k
      → step_from F (stand_at F s inputs k) (get_or inputs k 0) ≢ refused r
      → step_from F' (stand_at F' s inputs k) (get_or inputs k 0)
      ≡ step_from F (stand_at F s inputs k) (get_or inputs k 0)
  step_where k e p =
      let t = stand_at F s inputs k in
      ap (λ u. step_from F' u (get_or inputs k 0)) e
      ∙ agree t.config (valid-at F leads s inputs v k) (t.carried ∪ get_or inputs k 0) p

  stand_where : (k : ℕ) → Far r F s inputs k → stand_at F' s inputs k ≡ stand_at F s inputs k
  unfolding stand_at
  stand_where zero b = refl
  stand_where (suc k) b =
      let e = stand_where k (λ j l. b j (omega arith)) in
      ap₂ (λ a u. stand_after a u (get_or inputs k 0)) (step_where k e (b k (omega arith))) e

  -- so the second run is not refused with it before the first is
  pub far_where : (k : ℕ) → Far r F s inputs k → Far r F' s inputs k
  far_where k b j l z = b j l (sym (step_where j (stand_where j (λ i m. b i (omega arith))) (b j l)) ∙ z)

-- ── as the calls answer them ──

module _ (f f' : List ℕ) (config : List ℕ) where
  -- `step`: what counts is the step behind its tests
  step-behind : (i : Set) (room : ℕ) → step_refusal f' config room ≡ step_refusal f config room
      → (P : Answer → Answer → Type 0)
      → (Valid (file_of f) config → P (step_in (file_of f) config i) (step_in (file_of f') config i))
      → P (refused (step_refusal f config room)) (refused (step_refusal f config room))
      → P (step_of f config i room) (step_of f' config i room)
  unfolding step_of
  step-behind i room e P h g =
      subst (λ n. P (cond (same (step_refusal f config room) 0) (step_in (file_of f) config i)
      (refused (step_refusal f config room))) (cond (same n 0) (step_in (file_of f') config i) (refused n))) (sym e)
      (go (same (step_refusal f config room) 0) refl)
    where
      go : (x : Bool) → same (step_refusal f config room) 0 ≡ x
          → P (cond x (step_in (file_of f) config i) (refused (step_refusal f config room)))
          (cond x (step_in (file_of f') config i) (refused (step_refusal f config room)))
      go true z = h (step_allowed f config room (same→≡ _ 0 z)).1
      go false z = g

  -- `run`, with the same set carried, the same inputs and the same buffer
  module _ (carried : Set) (inputs : List Set) (rows : List ℕ)
      (e : run_refusal f' config (length inputs) (length rows) ≡ run_refusal f config (length inputs) (length rows))
    where
      abbrev start : Stand
      start = record { config = config; carried = carried }

      abbrev passes : Type 0
      passes = run_refusal f config (length inputs) (length rows) ≡ 0

      -- some part of the buffer, g
      rows_behind : (g : List ℕ → List ℕ)
          → (passes → g (laid_over (rows_from (file_of f') start inputs) rows)
          ≡ g (laid_over (rows_from (file_of f) start inputs) rows))
          → g (run_bytes f' config carried inputs rows) ≡ g (run_bytes f config carried inputs rows)
      unfolding run_bytes
      rows_behind g h =
          ap (λ m. g (cond (same m 0) (laid_over (rows_from (file_of f') start inputs) rows) rows)) e
          ∙ go (same (run_refusal f config (length inputs) (length rows)) 0) refl
        where
          go : (x : Bool) → same (run_refusal f config (length inputs) (length rows)) 0 ≡ x
              → g (cond x (laid_over (rows_from (file_of f') start inputs) rows) rows)
              ≡ g (cond x (laid_over (rows_from (file_of f) start inputs) rows) rows)
          go true z = h (same→≡ _ 0 z)
          go false z = refl

      carried_behind : (passes → carried_from (file_of f') start inputs ≡ carried_from (file_of f) start inputs)
          → run_carried f' config carried inputs (length rows) ≡ run_carried f config carried inputs (length rows)
      unfolding run_carried
      carried_behind h =
          ap (λ m. cond (same m 0) (carried_from (file_of f') start inputs) ∅) e
          ∙ behind_cong (run_refusal f config (length inputs) (length rows)) _ _ ∅ h

-- how far a run comes, by where it stands
far : (r : ℕ) (f config : List ℕ) (carried : Set) (inputs : List Set) (rows : List ℕ)
    → run_refusal f config (length inputs) (length rows) ≡ 0 → (k : ℕ) → k ≤ length inputs
    → Until r f config carried inputs rows k
    → Far r (file_of f) (record { config = config; carried = carried }) inputs k
far r f config carried inputs rows h k l b j m z =
    b j m (step_there f config carried inputs rows h j (omega arith) ∙ z)

-- the steps agree, unless one is refused with r
module _ (r : ℕ) (f f' : List ℕ) (agree : StepsAgreeUnless r (file_of f) (file_of f')) (config : List ℕ) where
  pub same-step_until : (i : Set) (room : ℕ) → step_refusal f' config room ≡ step_refusal f config room
      → AgreeUnless r (step_of f config i room) (step_of f' config i room)
  same-step_until i room e =
      step-behind f f' config i room e (AgreeUnless r) (λ v. agree config v i) (λ p q. refl)

  module _ (carried : Set) (inputs : List Set) (rows : List ℕ)
      (e : run_refusal f' config (length inputs) (length rows) ≡ run_refusal f config (length inputs) (length rows))
    where
      -- the first k rows
      pub same_rows_until : (k : ℕ) → k ≤ length inputs → Until r f config carried inputs rows k
          → Until r f' config carried inputs rows k
          → take (k * (10 + (file_of f).charts)) (run_bytes f' config carried inputs rows)
          ≡ take (k * (10 + (file_of f).charts)) (run_bytes f config carried inputs rows)
      same_rows_until k l b b' =
          rows_behind f f' config carried inputs rows e (take (k * (10 + (file_of f).charts))) (λ z.
          let h = run_allowed f config (length inputs) (length rows) z in
          rows_until r (file_of f) (file_of f') (file-leads f h.0) agree _ inputs h.1 k l
          (far r f config carried inputs rows z k l b) (far r f' config carried inputs rows (e ∙ z) k l b') _ _)

      -- the whole buffer
      pub same_run_until : Until r f config carried inputs rows (length inputs)
          → Until r f' config carried inputs rows (length inputs)
          → run_bytes f' config carried inputs rows ≡ run_bytes f config carried inputs rows
      same_run_until b b' =
          rows_behind f f' config carried inputs rows e (λ xs. xs) (λ z.
          let h = run_allowed f config (length inputs) (length rows) z in
          ap (λ xs. laid_over xs rows) (run_until r (file_of f) (file_of f') (file-leads f h.0) agree _ inputs h.1
          (far r f config carried inputs rows z (length inputs) (omega arith) b)
          (far r f' config carried inputs rows (e ∙ z) (length inputs) (omega arith) b')))

      -- what it returns as carried
      pub same_carried_until : Until r f config carried inputs rows (length inputs)
          → Until r f' config carried inputs rows (length inputs)
          → run_carried f' config carried inputs (length rows) ≡ run_carried f config carried inputs (length rows)
      same_carried_until b b' =
          carried_behind f f' config carried inputs rows e (λ z.
          let h = run_allowed f config (length inputs) (length rows) z in
          let h' = run_allowed f' config (length inputs) (length rows) (e ∙ z) in
          carried_until r (file_of f) (file_of f') (file-leads f h.0) agree _ inputs h.1 (file-leads f' h'.0)
          (far r f config carried inputs rows z (length inputs) (omega arith) b)
          (far r f' config carried inputs rows (e ∙ z) (length inputs) (omega arith) b'))

-- each step of f that is not refused with r is that of f' too
module _ (r : ℕ) (f f' : List ℕ) (agree : StepsAgreeWhere r (file_of f) (file_of f')) (config : List ℕ) where
  pub same-step_where : (i : Set) (room : ℕ) → step_refusal f' config room ≡ step_refusal f config room
      → step_of f config i room ≢ refused r → step_of f' config i room ≡ step_of f config i room
  same-step_where i room e =
      step-behind f f' config i room e (λ a b. a ≢ refused r → b ≡ a) (λ v. agree config v i) (λ p. refl)

  module _ (carried : Set) (inputs : List Set) (rows : List ℕ)
      (e : run_refusal f' config (length inputs) (length rows) ≡ run_refusal f config (length inputs) (length rows))
    where
      abbrev begin : Stand
      begin = record { config = config; carried = carried }

      far_too : (z : run_refusal f config (length inputs) (length rows) ≡ 0) (k : ℕ) → k ≤ length inputs
          → Until r f config carried inputs rows k → Far r (file_of f') begin inputs k
      far_too z k l b =
          let h = run_allowed f config (length inputs) (length rows) z in
          far_where r (file_of f) (file_of f') (file-leads f h.0) agree begin inputs h.1 k
          (far r f config carried inputs rows z k l b)

      -- the first k rows
      pub same_rows_where : (k : ℕ) → k ≤ length inputs → Until r f config carried inputs rows k
          → take (k * (10 + (file_of f).charts)) (run_bytes f' config carried inputs rows)
          ≡ take (k * (10 + (file_of f).charts)) (run_bytes f config carried inputs rows)
      same_rows_where k l b =
          rows_behind f f' config carried inputs rows e (take (k * (10 + (file_of f).charts))) (λ z.
          let h = run_allowed f config (length inputs) (length rows) z in
          rows_until r (file_of f) (file_of f') (file-leads f h.0) (agree_unless r (file_of f) (file_of f') agree) begin
          inputs h.1 k l (far r f config carried inputs rows z k l b) (far_too z k l b) _ _)

      -- the whole buffer
      pub same_run_where : Until r f config carried inputs rows (length inputs)
          → run_bytes f' config carried inputs rows ≡ run_bytes f config carried inputs rows
      same_run_where b =
          rows_behind f f' config carried inputs rows e (λ xs. xs) (λ z.
          let h = run_allowed f config (length inputs) (length rows) z in
          ap (λ xs. laid_over xs rows) (run_until r (file_of f) (file_of f') (file-leads f h.0)
          (agree_unless r (file_of f) (file_of f') agree) begin inputs h.1
          (far r f config carried inputs rows z (length inputs) (omega arith) b)
          (far_too z (length inputs) (omega arith) b)))

      -- what it returns as carried
      pub same_carried_where : Until r f config carried inputs rows (length inputs)
          → run_carried f' config carried inputs (length rows) ≡ run_carried f config carried inputs (length rows)
      same_carried_where b =
          carried_behind f f' config carried inputs rows e (λ z.
          let h = run_allowed f config (length inputs) (length rows) z in
          let h' = run_allowed f' config (length inputs) (length rows) (e ∙ z) in
          carried_until r (file_of f) (file_of f') (file-leads f h.0)
          (agree_unless r (file_of f) (file_of f') agree) begin
          inputs h.1 (file-leads f' h'.0)
          (far r f config carried inputs rows z (length inputs) (omega arith) b)
          (far_too z (length inputs) (omega arith) b))
