-- What each call that asks about a file promises, one definition for each contract (docs/PROMISES.md, "The public
-- calls"). f has the bytes of the file and r is the result; b is what a buffer holds before the call, and c what it
-- holds after it.
use Rattle.std.specs.Prelude.{◌≡◌, Bool, List, ℕ, length, Result}
use Rattle.signals.specs.declared.guard.Tested.{Tested}
use Rattle.meaning.specs.Meaning.{Set}
use Rattle.meaning.specs.Check.{refusal_of}
use Rattle.meaning.specs.Calls.{first_refusal, first_bytes, input_of, output_of}
use Rattle.meaning.specs.Plain.{plain_of}
use Rattle.checks.specs.Refusals.{numbered, Answers}
use Rattle.checks.specs.declared.refusal.Refusal.{Refusal}
use Rattle.lacks.specs.Lacking.{lacking_of}
use Rattle.queries.specs.States.{states_of}
use Rattle.queries.specs.declared.file.StateCounts.{StateCounts}
use Rattle.queries.specs.declared.interface.Faces.{Faces}
pub mod Laws

-- the check (RULES 3.2)
abbrev pub CheckSays : List ℕ → Result (Unit {0}) Refusal → Type 0
CheckSays f r = Answers (refusal_of f) tt r

-- the first configuration (RULES 6.1)
abbrev pub FirstSays : List ℕ → List ℕ → Result (Unit {0}) Refusal → List ℕ → Type 0
FirstSays f b r c = Answers (first_refusal f (length b)) tt r × (c ≡ first_bytes f b)

-- how many states each chart has (RULES 2.3)
abbrev pub StatesSays : List ℕ → Result StateCounts Refusal → Type 0
StatesSays f r = Answers (refusal_of f) (states_of f) r

-- the interface (RULES 4.2)
abbrev pub InterfaceSays : List ℕ → Result Faces Refusal → Type 0
InterfaceSays f r = Answers (refusal_of f) (record { input = input_of f; output = output_of f }) r

-- whether the file is plain (RULES 8.2)
abbrev pub PlainSays : List ℕ → Result Bool Refusal → Type 0
PlainSays f r = Answers (refusal_of f) (plain_of f) r

-- what the transition at a place lacks under an offered set (RULES 13.2)
abbrev pub LackingSays : List ℕ → ℕ → ℕ → Set → Result Tested Refusal → Type 0
LackingSays f chart place o r = numbered r ≡ lacking_of f chart place o
