-- Laws of the run (RULES 6), in this order: what 7 tests (`body-leads`, `file-leads`); each configuration is valid
-- again (`valid-after`); a row's length; no row is ever missing (`rows_all`); row k is the step from where the k inputs
-- before it lead (`row-at`); what is carried (`carried_given` to `carried_last`). Of the bytes that a run leaves, and
-- of the set that it returns, they are in Files.
use Rattle.std.specs.Prelude.{◌≡◌, Bool, false, length, take}
use Rattle.std.proofs.Math.Path.{refl, ap}
use Rattle.std.proofs.Common.{◌∙◌, drop-cons, take_at, drop_at}
use mathlib.Core.List.{List, [], ◌∷◌, ◌++◌, Memᴰ}
use Prim.Native.Nat.{ℕ, zero, suc, ◌+◌, ◌*◌, ◌≤◌, ◌<◌}
use Rattle.std.proofs.Math.Nat.{suc-mul}
use native.Mathlib.Omega.{arith}
use Rattle.std.proofs.Math.ListN.{get_or, drop, length-append}
use Rattle.std.proofs.Math.Seq.{drop-length, drop-drop, get_or-take}
use Rattle.signals.specs.Mask.{◌∪◌}
use Rattle.layout.specs.Le.Laws.{length-bytes}
use Rattle.layout.specs.declared.body.Shape.{Shape}
use Rattle.layout.specs.declared.record.Transition.{Transition}
use Rattle.meaning.specs.Meaning.{Set, ∅, Answer, refused, given}
use Rattle.meaning.specs.File.{File, whole_of, trailer, body_of, shape_of, chart_of, file_at, file_of}
use Rattle.meaning.specs.Check.{transitions?, refusal_of}
use Rattle.meaning.specs.Check.Laws.{passed, to_states}
use Rattle.meaning.specs.Calls.{found_in, step_in, output_in, after_step, carried_after, row_of, rows_of, carried_of}
use Rattle.meaning.specs.Calls.Laws.{given_found}
use Rattle.meaning.proofs.Laws.Demand2.{valid-next}
pub use Rattle.meaning.specs.Calls.{Valid}

-- each transition leads to a state of its chart
abbrev pub Leads : File → Type 0
Leads F =
    (c : ℕ) → c < F.charts → (u : Transition) → Memᴰ u (F.chart c).transitions → u.to < (F.chart c).states

-- which 7 tests
pub body-leads : (n : Shape) (b : List ℕ) → transitions? n b ≡ false → Leads (file_at n b)
unfolding file_at chart_of
body-leads n b h = to_states n b h

pub file-leads : (f : List ℕ) → refusal_of f ≡ 0 → Leads (file_of f)
unfolding file_of
file-leads f h = body-leads (shape_of (trailer f)) (body_of f) (passed f h).transitions

-- where a run stands: the configuration, and what is carried
pub record Stand : Type 0 where
  pub config : List ℕ
  pub carried : Set

-- the step from there under an input, and where it leads
abbrev pub step_from : File → Stand → Set → Answer
step_from F s i = step_in F s.config (s.carried ∪ i)

abbrev pub stand_after : Answer → Stand → Set → Stand
stand_after r s i = record { config = after_step r s.config; carried = carried_after r (s.carried ∪ i) }

-- where it stands after k inputs
unfoldable pub stand_at : File → Stand → List Set → ℕ → Stand
stand_at F s inputs zero = s
stand_at F s inputs (suc k) =
    stand_after (step_from F (stand_at F s inputs k) (get_or inputs k 0)) (stand_at F s inputs k) (get_or inputs k 0)

abbrev pub rows_from : File → Stand → List Set → List ℕ
rows_from F s inputs = rows_of F s.config s.carried inputs

abbrev pub carried_from : File → Stand → List Set → Set
carried_from F s inputs = carried_of F s.config s.carried inputs

pub length-row : (r : Answer) (config : List ℕ) (k : ℕ) → length (after_step r config) ≡ k
    → length (row_of r config) ≡ 10 + k
unfolding row_of
length-row r config k h = rw (length-append, length-bytes 8 (output_in r)) (omega (arith, h))

-- the first of the inputs that are left gives the next row
module _ (F : File) (s : Stand) (inputs : List Set) (k : ℕ) (l : k < length inputs) where
  abbrev next : Answer
  next = step_from F s (get_or inputs k 0)

  pub rows_next : rows_from F s (drop k inputs)
      ≡ row_of next s.config ++ rows_from F (stand_after next s (get_or inputs k 0)) (drop (suc k) inputs)
  unfolding rows_of
  rows_next = rw (drop-cons inputs k 0)

  pub carried_next : carried_from F s (drop k inputs)
      ≡ carried_from F (stand_after next s (get_or inputs k 0)) (drop (suc k) inputs)
  unfolding carried_of
  carried_next = rw (drop-cons inputs k 0)

module _ (F : File) (leads : Leads F) where
  valid-answer : (config : List ℕ) (i : Set) (r : Answer) → step_in F config i ≡ r → Valid F config
      → Valid F (after_step r config)
  unfolding found_in
  valid-answer config i (refused r) e v = v
  valid-answer config i (given o n m) e v =
      let q = valid-next F.chart F.state (λ c. get_or config c 0) (whole_of F) i F.charts leads v.states o n m
      (given_found F config i o n m e).1 in
      record { long = q.0; states = q.1 }

  pub valid-after : (config : List ℕ) (i : Set) → Valid F config → Valid F (after_step (step_in F config i) config)
  valid-after config i v = valid-answer config i (step_in F config i) refl v

  pub length-next : (config : List ℕ) (i : Set) → Valid F config
      → length (row_of (step_in F config i) config) ≡ 10 + F.charts
  length-next config i v = length-row (step_in F config i) config F.charts (valid-after config i v).long

  -- no row is ever missing: there are as many as inputs
  pub rows_all : (s : Stand) (inputs : List Set) → Valid F s.config
      → length (rows_from F s inputs) ≡ length inputs * (10 + F.charts)
  unfolding rows_of
  rows_all s [] v = omega arith
  rows_all s (i ∷ is) v =
      rw (
        length-append,
        length-next s.config (s.carried ∪ i) v,
        rows_all (stand_after (step_from F s i) s i) is (valid-after s.config (s.carried ∪ i) v),
        suc-mul,
      )
      (omega arith)

  module _ (s : Stand) (inputs : List Set) (v : Valid F s.config) where
    pub valid-at : (k : ℕ) → Valid F (stand_at F s inputs k).config
    unfolding stand_at
    valid-at zero = v
    valid-at (suc k) = let t = stand_at F s inputs k in
        valid-after t.config (t.carried ∪ get_or inputs k 0) (valid-at k)

    -- from row k on the rows are those of the inputs that are left
    pub rows_from_lem : (k : ℕ) → k ≤ length inputs
        → drop (k * (10 + F.charts)) (rows_from F s inputs) ≡ rows_from F (stand_at F s inputs k) (drop k inputs)
    unfolding stand_at
    rows_from_lem zero l = ap (λ n. drop n (rows_from F s inputs)) (let e : 0 * (10 + F.charts) ≡ 0 = omega arith in e)
    rows_from_lem (suc k) l =
        let t = stand_at F s inputs k in
        let i = get_or inputs k 0 in
        rw (
          suc-mul,
          ← drop-drop (10 + F.charts) (k * (10 + F.charts)) (rows_from F s inputs),
          rows_from_lem k (omega arith),
          rows_next F t inputs k (omega arith),
        )
        (drop_at (row_of (step_from F t i) t.config)
        (rows_from F (stand_after (step_from F t i) t i) (drop (suc k) inputs)) (10 + F.charts)
        (length-next t.config (t.carried ∪ i) (valid-at k)))

    -- each row is the step from where the run stands before it
    pub row-at : (k : ℕ) → k < length inputs
        → take (10 + F.charts) (drop (k * (10 + F.charts)) (rows_from F s inputs))
        ≡ row_of (step_from F (stand_at F s inputs k) (get_or inputs k 0)) (stand_at F s inputs k).config
    row-at k l =
        let t = stand_at F s inputs k in
        let i = get_or inputs k 0 in
        rw (rows_from_lem k (omega arith), rows_next F t inputs k l)
        (take_at (row_of (step_from F t i) t.config)
        (rows_from F (stand_after (step_from F t i) t i) (drop (suc k) inputs)) (10 + F.charts)
        (length-next t.config (t.carried ∪ i) (valid-at k)))

  -- where it stands after k inputs, the inputs from k on do not matter
  pub stand-take : (s : Stand) (inputs : List Set) (n k : ℕ) → k ≤ n
      → stand_at F s (take n inputs) k ≡ stand_at F s inputs k
  unfolding stand_at
  stand-take s inputs n zero l = refl
  stand-take s inputs n (suc k) l = rw (stand-take s inputs n k (omega arith), get_or-take n inputs k 0 (omega arith))

  -- ── what is carried ──

  module _ (s : Stand) (inputs : List Set) where
    -- a step given carries nothing on; a refused one, all that it was offered
    pub carried_given : (k : ℕ) (o : Set) (n : List ℕ) (m : Bool)
        → step_from F (stand_at F s inputs k) (get_or inputs k 0) ≡ given o n m
        → (stand_at F s inputs (suc k)).carried ≡ ∅
    unfolding stand_at
    carried_given k o n m e = ap (λ r. carried_after r ((stand_at F s inputs k).carried ∪ get_or inputs k 0)) e

    pub carried_refused : (k r : ℕ) → step_from F (stand_at F s inputs k) (get_or inputs k 0) ≡ refused r
        → (stand_at F s inputs (suc k)).carried ≡ (stand_at F s inputs k).carried ∪ get_or inputs k 0
    unfolding stand_at
    carried_refused k r e = ap (λ a. carried_after a ((stand_at F s inputs k).carried ∪ get_or inputs k 0)) e

    -- what the run returns is what the inputs behind the first k return from where it stands there
    carried_behind : (k : ℕ) → k ≤ length inputs
        → carried_from F s inputs ≡ carried_from F (stand_at F s inputs k) (drop k inputs)
    unfolding stand_at
    carried_behind zero l = refl
    carried_behind (suc k) l = carried_behind k (omega arith) ∙ carried_next F (stand_at F s inputs k) inputs k l

    -- so it is what is carried after the last input
    pub carried_last : carried_from F s inputs ≡ (stand_at F s inputs (length inputs)).carried
    unfolding carried_of
    carried_last = carried_behind (length inputs) (omega arith)
        ∙ ap (carried_from F (stand_at F s inputs (length inputs))) (drop-length inputs)
