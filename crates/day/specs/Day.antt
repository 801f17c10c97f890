-- What the day program promises of what it prints, and what the check of its input tells it.
use Rattle.std.specs.Prelude.{◌≡◌, List, ℕ, ◌*◌, ◌/◌, ◌≤◌, length, Result, Ok, Err}
use Rattle.layout.specs.declared.body.Shape.{Shape}
use Rattle.meaning.specs.Numbers.{most_charts}
use Rattle.meaning.specs.File.{trailer, shape_of, body_of, file_of}
use Rattle.meaning.specs.Check.{refusal_of}
use Rattle.meaning.proofs.Laws.Runs.{Leads}
use Rattle.meaning.specs.Calls.{laid_over}
use Rattle.checks.specs.Refusals.{number}
use Rattle.checks.specs.declared.refusal.Refusal.{Refusal}
use Rattle.line.specs.Line.{front_of, day_refusal, day_from}
use Rattle.opening.specs.Opening.{Stands}
use Rattle.opening.specs.declared.Opening.{Opening}
use Rattle.stepping.specs.Step.{Checked}
pub mod Laws

-- the program's contract: what it prints for the first bytes s of its input and so many behind them, over the front of
-- a buffer b, which becomes c
abbrev pub DaySays : List ℕ → ℕ → List ℕ → ℕ → List ℕ → Type 0
DaySays s behind b r c = (r ≡ length (day_from s behind)) × (c ≡ laid_over (day_from s behind) b)

-- a file of this many charts that passed 1 to 11, with room for n inputs in front
pub record Accepted (f : List ℕ) (charts n : ℕ) : Type 0 where
  pub passes : refusal_of f ≡ 0
  pub charts_is : charts ≡ (file_of f).charts
  pub few : charts ≤ most_charts
  pub within : 8 * n ≤ length f
  pub leads : Leads (file_of f)

-- the body of such a file, and how many records of each kind it has
pub record Body (f : List ℕ) (n : Shape) (b : List ℕ) : Type 0 where
  pub shape : n ≡ shape_of (trailer f)
  pub body : b ≡ body_of f
  pub checked : Checked n b

-- what the check of an input found: the body, behind the inputs
pub record Behind (f : List ℕ) (o : Opening) : Type 0 where
  pub accepted : Accepted f o.shape.charts (o.start / 8)
  pub stands : Stands f o
  pub inputs : o.start / 8 ≡ front_of f / 8

-- it is found exactly if no refusal applies
abbrev pub Opened : List ℕ → Result Opening Refusal → Type 0
Opened f (Ok o) = (day_refusal f ≡ 0) × Behind f o
Opened f (Err r) = number r ≡ day_refusal f
