-- What a step and a run promise, one definition for each contract (docs/PROMISES.md, "The public calls"), for every
-- file, configuration, input and buffer. f has the bytes of the file and r is the result; b is what a buffer holds
-- before the call, and c what it holds after it.
use Rattle.std.specs.Prelude.{◌≡◌, List, ℕ, length, Result}
use Rattle.meaning.specs.Meaning.{Set}
use Rattle.meaning.specs.Calls.{step_of, places_of, open_of, next_in, run_refusal, run_bytes, run_carried}
use Rattle.checks.specs.Refusals.{Answers}
use Rattle.checks.specs.declared.refusal.Refusal.{Refusal}
use Rattle.stepping.specs.Answer.{Steps}
use Rattle.stepping.specs.declared.step.Stepped.{Stepped}
use Rattle.stepping.specs.declared.step.Refused.{Refused}
pub mod Laws

-- the step from a configuration under the input i (RULES 5.9)
abbrev pub StepSays : List ℕ → List ℕ → Set → List ℕ → Result Stepped Refused → List ℕ → Type 0
StepSays f config i b r c =
    Steps (step_of f config i (length b)) (places_of f config i (length b)) (open_of f config i (length b)) r
    × (c ≡ next_in (step_of f config i (length b)) b)

-- the run from a configuration, with what is carried there (RULES 6)
abbrev pub RunSays : List ℕ → List ℕ → Set → List Set → List ℕ → Result Set Refusal → List ℕ → Type 0
RunSays f config carried inputs b r c =
    Answers (run_refusal f config (length inputs) (length b)) (run_carried f config carried inputs (length b)) r
    × (c ≡ run_bytes f config carried inputs b)
