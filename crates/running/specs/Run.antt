-- A run of a body that passed 1 to 11: what the list of RULES 3.6 goes on with, 20, 21, 27, then the rows and what is
-- carried.
use Rattle.std.specs.Prelude.{◌≡◌, cond, List, [], ◌∷◌, ◌++◌, ℕ, ◌+◌, ◌*◌, ltb, length, Result}
use Rattle.meaning.specs.Numbers.{short_rows}
use Rattle.meaning.specs.Meaning.{Set, ∅, same}
use Rattle.meaning.specs.File.{File}
use Rattle.meaning.specs.Check.{first_of}
use Rattle.meaning.specs.Calls.{laid_over, rows_of, carried_of}
use Rattle.checks.specs.Refusals.{Answers}
use Rattle.checks.specs.declared.refusal.Refusal.{Refusal}
use Rattle.stepping.specs.Step.{config_tests_in}
pub mod Laws

unfoldable pub run_refusal_after : File → List ℕ → ℕ → ℕ → ℕ
run_refusal_after F config inputs room =
    first_of (config_tests_in F config
    ++ (record { number = short_rows; applies = ltb room (inputs * (10 + F.charts)) } ∷ []))

unfoldable pub run_after : File → List ℕ → Set → List Set → List ℕ → List ℕ
run_after F config carried inputs rows =
    cond (same (run_refusal_after F config (length inputs) (length rows)) 0)
    (laid_over (rows_of F config carried inputs) rows) rows

unfoldable pub carried_run : File → List ℕ → Set → List Set → ℕ → Set
carried_run F config carried inputs room =
    cond (same (run_refusal_after F config (length inputs) room) 0) (carried_of F config carried inputs) ∅

-- what such a run answers, and what it leaves of a buffer b
abbrev pub BodyRuns : File → List ℕ → Set → List Set → List ℕ → Result Set Refusal → List ℕ → Type 0
BodyRuns F config carried inputs b r c =
    Answers (run_refusal_after F config (length inputs) (length b)) (carried_run F config carried inputs (length b)) r
    × (c ≡ run_after F config carried inputs b)
