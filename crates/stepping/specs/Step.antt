-- What the step's functions ask and leave. A step of a body that passed 1 to 11 (`step_after`) is what the list of
-- RULES
-- 3.6 goes on with; the search over the tables of a wired file answers it (`Prepared`, `Finds`), with 24 before it
-- (`Tries`).
use Rattle.std.specs.Prelude.{◌≡◌, false, cond, List, [], ◌∷◌, ◌++◌, ℕ, ltb, length, get_or, Result, Ok, Err}
use Rattle.layout.specs.declared.body.Shape.{Shape}
use Rattle.meaning.specs.Numbers.{most_open, wrong_length, bad_state, short_buffer, no_step, many_open}
use Rattle.meaning.specs.Sums.{any_up_to}
use Rattle.meaning.specs.Meaning.{Set, same, Answer, refused}
use Rattle.meaning.specs.File.{File, file_at, whole_of}
use Rattle.meaning.specs.Check.{Test, first_of, differ, not_below, charts?, transitions?}
use Rattle.meaning.specs.Check.Nodes.{Sound}
use Rattle.meaning.specs.Open.{open_in}
use Rattle.meaning.specs.Calls.{found_in, step_in, all_places, places_found, places_in, open_for, next_in}
use Rattle.settling.specs.Trail.{beginning}
use Rattle.settling.specs.Hunt.{over, nothing}
use Rattle.settling.specs.Calm.{hunts_both}
use Rattle.settling.specs.declared.Found.{Found}
use Rattle.tables.specs.Contents.{answer_of}
use Rattle.tables.specs.Narrowing.{Reads}
use Rattle.tables.specs.Simulation.{Opens}
use Rattle.checks.specs.Known.{Sized, Summed}
use Rattle.checks.specs.Refusals.{number}
use Rattle.plan.specs.Plan.{Wired}
use Rattle.candidates.specs.Candidates.{Tabled, Mays, Sures}
use Rattle.staying.specs.Staying.{Stays}
use Rattle.stepping.specs.Answer.{Steps}
use Rattle.stepping.specs.declared.step.Stepped.{Stepped}
use Rattle.stepping.specs.declared.step.Refused.{Refused}
use Rattle.stepping.specs.declared.step.Tried.{Tried}
pub mod Laws

-- 20 and 21
unfoldable pub config_tests_in : File → List ℕ → List Test
config_tests_in F config =
    record { number = wrong_length; applies = differ (length config) F.charts }
    ∷ record {
      number = bad_state;
      applies =
          any_up_to F.charts (λ c. not_below (get_or config c 0) (F.chart c).states);
    }
    ∷ []

-- 20 to 22
unfoldable pub refusal_after : File → List ℕ → ℕ → ℕ
refusal_after F config room =
    first_of (config_tests_in F config ++ (record { number = short_buffer; applies = ltb room F.charts } ∷ []))

unfoldable pub step_after : File → List ℕ → Set → ℕ → Answer
step_after F config i room =
    cond (same (refusal_after F config room) 0) (step_in F config i) (refused (refusal_after F config room))

unfoldable pub places_after : File → List ℕ → Set → ℕ → List ℕ
places_after F config i room = cond (same (refusal_after F config room) 0) (places_in F config i) (all_places [])

abbrev pub open_after : File → List ℕ → Set → ℕ → ℕ
open_after F config i room = open_for (step_after F config i room) (open_in F config)

-- what a step of a body that passed 1 to 11 answers, and what it leaves of a buffer b
abbrev pub BodySteps : File → List ℕ → Set → List ℕ → Result Stepped Refused → List ℕ → Type 0
BodySteps F config i b r c =
    Steps (step_after F config i (length b)) (places_after F config i (length b)) (open_after F config i (length b)) r
    × (c ≡ next_in (step_after F config i (length b)) b)

-- a body that passed 1 to 11
pub record Checked (n : Shape) (b : List ℕ) : Type 0 where
  pub sized : Sized n b
  pub summed : Summed n b
  pub charts : charts? n b ≡ false
  pub transitions : transitions? n b ≡ false
  pub sound : Sound (file_at n b)

-- a search's tables m and s for a body, wired; a has what of the input gets down to each chart
pub record Prepared (n : Shape) (b a m s : List ℕ) : Type 0 where
  pub wired : Wired (file_at n b) a m s
  pub tabled : Tabled n.charts m s

-- no permitted choice goes to a state that is shut, whatever the input is
abbrev pub Shut : Shape → List ℕ → List ℕ → List ℕ → Type 0
Shut n b config shuts = (i : Set) → Opens (file_at n b) (file_at n b).chart (λ c. get_or config c 0) i shuts

-- reads has all that is read of each chart's action
abbrev pub AllRead : Shape → List ℕ → List ℕ → List ℕ → Type 0
AllRead n b config reads =
    Reads (file_at n b).chart (λ c. get_or config c 0) n.charts (whole_of (file_at n b)) (λ c. get_or reads c 0)

-- and may and sures have what its transitions from its state put out of that: some of them, and all of them
pub record Narrowed (n : Shape) (b config reads may sures : List ℕ) : Type 0 where
  pub read : AllRead n b config reads
  pub mays : Mays n b config reads n.charts may
  pub sure : Sures n b config reads n.charts sures

-- what a search over tables finds, low being what each chart is surely offered before any is settled
abbrev pub searched_of : ℕ → List ℕ → List ℕ → List ℕ → List ℕ → List ℕ → Found
searched_of N low m s g y = over (hunts_both m s g y N 0 (beginning low)) nothing

-- what was found is what a search finds that was told which charts may stay
pub record Searched (n : Shape) (b config may low shuts m s : List ℕ) (f : Found) : Type 0 where
  pub guards : List ℕ
  pub stays : List ℕ
  pub told : Stays n b config may low shuts m guards stays
  pub found : f ≡ searched_of n.charts low m s guards stays

-- what was found is what the meaning finds, and has its places
pub record Finds (n : Shape) (b config : List ℕ) (i : Set) (f : Found) : Type 0 where
  pub answers : answer_of n.charts f ≡ found_in (file_at n b) config i
  pub places : f.places ≡ places_found (file_at n b) config i

-- the answer of a step of N charts, by how many choices are open and what was found
abbrev pub tried_answer : ℕ → Tried → Answer
tried_answer N t = cond (ltb most_open t.open_choices) (refused many_open) (answer_of N t.found)

abbrev pub tried_refusal : Tried → ℕ
tried_refusal t = cond (ltb most_open t.open_choices) many_open (cond t.found.has 0 no_step)

-- what is told of it: the choice that was found, or the refusal, and how many choices that says are open (RULES 5.15)
abbrev pub Told : Tried → Result Found Refused → Type 0
Told t (Ok f) = (tried_refusal t ≡ 0) × (f ≡ t.found)
Told t (Err e) =
    (number e.refusal ≡ tried_refusal t) × (e.open_choices ≡ open_for (refused (number e.refusal)) t.open_choices)

-- it answers the step, and has its places
pub record Tries (n : Shape) (b config : List ℕ) (i : Set) (t : Tried) : Type 0 where
  pub counts : t.open_choices ≡ open_in (file_at n b) config
  pub answers : tried_answer n.charts t ≡ step_in (file_at n b) config i
  pub places : t.found.places ≡ places_in (file_at n b) config i
