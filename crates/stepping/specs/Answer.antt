-- What a step answers, in the types of the code.
use Rattle.std.specs.Prelude.{◌≡◌, List, ℕ, Result, Ok, Err}
use Rattle.meaning.specs.Meaning.{Answer, refused, given}
use Rattle.checks.specs.Refusals.{number}
use Rattle.stepping.specs.declared.step.Stepped.{Stepped}
use Rattle.stepping.specs.declared.step.Refused.{Refused}
pub mod Laws

-- an answer, the places of its transitions (RULES 5.9, 5.11) and how many choices it says are open (RULES 5.15): a step
-- given has its output, its mark, these places and this number, a refusal the number of its rule and this one
abbrev pub Steps : Answer → List ℕ → ℕ → Result Stepped Refused → Type 0
Steps (given o next m) places k (Ok s) = s ≡ record { places = places; output = o; open_choices = k; mark = m }
Steps (given o next m) places k (Err e) = ⊥
Steps (refused r) places k (Ok s) = ⊥
Steps (refused r) places k (Err e) = (number e.refusal ≡ r) × (e.open_choices ≡ k)
