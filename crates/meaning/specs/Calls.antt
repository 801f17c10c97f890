-- What the public calls answer (RULES 1.3), the rewriting aside: the first configuration, the interface, the step, the
-- run. Each has one list of tests, in the order of RULES 3.6. A call that is refused changes no byte of a buffer (RULES
-- 1.4).
use Rattle.std.specs.Prelude.{◌≡◌, Bool, false, cond, List, [], ◌∷◌, ◌++◌, ℕ, zero, suc, ◌+◌, ◌-◌, ◌*◌, ◌<◌, ltb}
use Rattle.std.specs.Prelude.{length, get_or, take, drop, replicate}
use Rattle.signals.specs.Mask.{◌∪◌}
use Rattle.layout.specs.Le.{bytes}
use Rattle.meaning.specs.Numbers.{most_charts, most_open, no_place, wrong_length, bad_state, short_buffer, many_open}
use Rattle.meaning.specs.Numbers.{short_rows}
use Rattle.meaning.specs.Sums.{any_up_to, one}
use Rattle.meaning.specs.Meaning.{Set, ∅, same, Outcome, Answer, refused, given, in_face, out_face, outcomes}
use Rattle.meaning.specs.Meaning.{answer, first_places}
use Rattle.meaning.specs.File.{File, whole_of, file_of}
use Rattle.meaning.specs.Check.{Test, first_of, file_tests, refusal_of, differ, not_below}
use Rattle.meaning.specs.Open.{open_in}
pub mod Laws

-- f at 0, 1, .. n - 1
unfoldable pub made : ℕ → (ℕ → ℕ) → List ℕ
made zero f = []
made (suc n) f = made n f ++ (f n ∷ [])

-- xs over the front of the caller's buffer; the other bytes are unchanged (RULES 1.4)
abbrev pub laid_over : List ℕ → List ℕ → List ℕ
laid_over xs buffer = xs ++ drop (length xs) buffer

-- ── the first configuration: 1 to 11, 22 (RULES 3.6) ──

-- 22: the buffer has fewer bytes than there are charts (RULES 3.3)
unfoldable pub first_refusal : List ℕ → ℕ → ℕ
first_refusal f room =
    first_of (file_tests f ++ (record { number = short_buffer; applies = ltb room (file_of f).charts } ∷ []))

-- the initial states of all charts, inside a slave or not (RULES 6.1)
unfoldable pub initials : List ℕ → List ℕ
initials f = made (file_of f).charts (λ c. ((file_of f).chart c).initial)

-- what the buffer holds after the call (RULES 1.4)
unfoldable pub first_bytes : List ℕ → List ℕ → List ℕ
first_bytes f buffer = cond (same (first_refusal f (length buffer)) 0) (laid_over (initials f) buffer) buffer

-- ── the interface: 1 to 11 (RULES 3.6) ──

-- the input interface of the whole (RULES 4.2); ∅ if the file is refused (RULES 1.4)
unfoldable pub input_of : List ℕ → Set
input_of f = cond (same (refusal_of f) 0) (in_face (file_of f).chart (whole_of (file_of f))) ∅

-- the output interface of the whole (RULES 4.2); ∅ if the file is refused (RULES 1.4)
unfoldable pub output_of : List ℕ → Set
output_of f = cond (same (refusal_of f) 0) (out_face (file_of f).chart (whole_of (file_of f))) ∅

-- ── the step: 1 to 11, 20, 21, 22, 24, 23 (RULES 3.6) ──

-- 20: not one byte for each chart; 21: a byte is not a state of its chart (RULES 3.3)
unfoldable pub config_tests : List ℕ → List ℕ → List Test
config_tests f config =
    record { number = wrong_length; applies = differ (length config) (file_of f).charts }
    ∷ record {
      number = bad_state;
      applies = any_up_to (file_of f).charts (λ c. not_below (get_or config c 0) ((file_of f).chart c).states);
    }
    ∷ []

-- a configuration of a file that neither applies to: a state of each chart (RULES 5.1)
pub record Valid (F : File) (config : List ℕ) : Type 0 where
  pub long : length config ≡ F.charts
  pub states : (c : ℕ) → c < F.charts → get_or config c 0 < (F.chart c).states

-- all tests but 24 and 23, which `step_in` makes; 22: the buffer has fewer bytes than there are charts (RULES 3.3)
unfoldable pub step_refusal : List ℕ → List ℕ → ℕ → ℕ
step_refusal f config room =
    first_of (file_tests f ++ config_tests f config
    ++ (record { number = short_buffer; applies = ltb room (file_of f).charts } ∷ []))

-- what a step of a file that is in order may give, from a configuration that is (RULES 5.7, 5.8)
abbrev pub outcomes_in : File → List ℕ → Set → List Outcome
outcomes_in F config i = outcomes F.chart F.state (λ c. get_or config c 0) (whole_of F) i F.charts

-- what is found among all choices: given, or refused with 23 (RULES 5.9)
unfoldable pub found_in : File → List ℕ → Set → Answer
found_in F config i = answer (outcomes_in F config i)

-- 24: more choices are open than a step may have (RULES 3.3)
unfoldable pub many_open? : File → List ℕ → Bool
many_open? F config = ltb most_open (open_in F config)

-- such a step: refused with 24, or what is found (RULES 5.9)
unfoldable pub step_in : File → List ℕ → Set → Answer
step_in F config i = cond (many_open? F config) (refused many_open) (found_in F config i)

-- what `step` answers, its places aside (RULES 5.9)
unfoldable pub step_of : List ℕ → List ℕ → Set → ℕ → Answer
step_of f config i room =
    cond (same (step_refusal f config room) 0) (step_in (file_of f) config i) (refused (step_refusal f config room))

-- how many choices are open, as an answer says it (RULES 5.15): 0 in a refusal numbered below 24
abbrev pub open_for : Answer → ℕ → ℕ
open_for (refused r) n = cond (ltb r many_open) 0 n
open_for (given o next m) n = n

-- the number of open choices that `step` answers
unfoldable pub open_of : List ℕ → List ℕ → Set → ℕ → ℕ
open_of f config i room = open_for (step_of f config i room) (open_in (file_of f) config)

-- the places of an answer (RULES 5.11): those of the file's charts, and 255 for each that is left; a refused step has
-- 255 only
abbrev pub all_places : List ℕ → List ℕ
all_places ps = ps ++ replicate (most_charts - length ps) no_place

-- the places of what is found
unfoldable pub places_found : File → List ℕ → Set → List ℕ
places_found F config i = all_places (first_places (outcomes_in F config i))

-- the places of a step of a file that is in order
unfoldable pub places_in : File → List ℕ → Set → List ℕ
places_in F config i = cond (many_open? F config) (all_places []) (places_found F config i)

-- the places that `step` answers
unfoldable pub places_of : List ℕ → List ℕ → Set → ℕ → List ℕ
places_of f config i room = cond (same (step_refusal f config room) 0) (places_in (file_of f) config i) (all_places [])

-- what an answer says (RULES 1.4): its refusal, output and mark, and what the caller's buffer for the next
-- configuration holds then
abbrev pub refusal_in : Answer → ℕ
refusal_in (refused r) = r
refusal_in (given o n m) = 0

abbrev pub output_in : Answer → Set
output_in (refused r) = ∅
output_in (given o n m) = o

abbrev pub mark_in : Answer → Bool
mark_in (refused r) = false
mark_in (given o n m) = m

abbrev pub next_in : Answer → List ℕ → List ℕ
next_in (refused r) buffer = buffer
next_in (given o n m) buffer = laid_over n buffer

-- ── the run: 1 to 11, 20, 21, 27 (RULES 3.6) ──

-- 27: the buffer has no room for a row for each input (RULES 3.3)
unfoldable pub run_refusal : List ℕ → List ℕ → ℕ → ℕ → ℕ
run_refusal f config inputs room =
    first_of (file_tests f ++ config_tests f config
    ++ (record { number = short_rows; applies = ltb room (inputs * (10 + (file_of f).charts)) } ∷ []))

-- the configuration after a step of a run; a refused step does not change it (RULES 6.2)
abbrev pub after_step : Answer → List ℕ → List ℕ
after_step (refused r) config = config
after_step (given o n m) config = n

-- the row of a step (RULES 6.3): the output in 8 bytes, the mark, the refusal, the configuration after the step
unfoldable pub row_of : Answer → List ℕ → List ℕ
row_of r config = bytes 8 (output_in r) ++ (one (mark_in r) ∷ refusal_in r ∷ after_step r config)

-- what is carried after a step under i (RULES 6.4): all of i if it is refused, nothing if it is given
abbrev pub carried_after : Answer → Set → Set
carried_after (refused r) i = i
carried_after (given o n m) i = ∅

-- the rows of a run (RULES 6.2, 6.3): for each input, in order, a step from the present configuration, under the input
-- joined with what is carried
unfoldable pub rows_of : File → List ℕ → Set → List Set → List ℕ
rows_of F config carried [] = []
rows_of F config carried (i ∷ is) =
    let r = step_in F config (carried ∪ i) in
    row_of r config ++ rows_of F (after_step r config) (carried_after r (carried ∪ i)) is

-- what is carried after the last input (RULES 6.4)
unfoldable pub carried_of : File → List ℕ → Set → List Set → Set
carried_of F config carried [] = carried
carried_of F config carried (i ∷ is) =
    let r = step_in F config (carried ∪ i) in
    carried_of F (after_step r config) (carried_after r (carried ∪ i)) is

-- what the buffer holds after the call (RULES 1.4)
unfoldable pub run_bytes : List ℕ → List ℕ → Set → List Set → List ℕ → List ℕ
run_bytes f config carried inputs rows =
    cond (same (run_refusal f config (length inputs) (length rows)) 0)
    (laid_over (rows_of (file_of f) config carried inputs) rows) rows

-- the carried set that `run` returns (RULES 6.4); ∅ if the run is refused (RULES 1.4)
unfoldable pub run_carried : List ℕ → List ℕ → Set → List Set → ℕ → Set
run_carried f config carried inputs room =
    cond (same (run_refusal f config (length inputs) room) 0) (carried_of (file_of f) config carried inputs) ∅

-- ── a run read row by row ──

-- row k of the rows that a run wrote (RULES 6.3)
abbrev pub row_at : List ℕ → List ℕ → ℕ → List ℕ
row_at f rows k = take (10 + (file_of f).charts) (drop (k * (10 + (file_of f).charts)) rows)

-- the configuration that input k meets: the given one, and then what the row before ends with (RULES 6.2)
abbrev pub config_at : List ℕ → List ℕ → List ℕ → ℕ → List ℕ
config_at f config rows zero = config
config_at f config rows (suc k) = drop 10 (row_at f rows k)

-- what is carried there: what a run of the first k inputs returns (RULES 6.4)
abbrev pub carried_at : List ℕ → List ℕ → Set → List Set → ℕ → ℕ → Set
carried_at f config carried inputs room k = run_carried f config carried (take k inputs) room

-- the step that is made there, in a run that writes its rows to a buffer (RULES 6.2)
unfoldable pub step_at : List ℕ → List ℕ → Set → List Set → List ℕ → ℕ → Answer
step_at f config carried inputs rows k =
    step_of f (config_at f config (run_bytes f config carried inputs rows) k)
    (carried_at f config carried inputs (length rows) k ∪ get_or inputs k 0) (file_of f).charts
