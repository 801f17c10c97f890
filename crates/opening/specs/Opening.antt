-- What the check of a file tells the calls that read the file: its refusal, and where its body stands (`Opens`); and
-- the tests of `file_tests` in the groups in which the code takes them.
use Rattle.std.specs.Prelude.{◌≡◌, ◌||◌, List, [], ◌∷◌, ℕ, ◌+◌, length, Result, Ok, Err}
use Rattle.layout.specs.declared.body.Shape.{Shape}
use Rattle.meaning.specs.Numbers.{not_zero, bad_node, bad_naming, bad_inside}
use Rattle.meaning.specs.File.{end_of, trailer, body_of, shape_of, file_at}
use Rattle.meaning.specs.Check.{Test, nonzero, zeros?, nodes?, naming?, inside?, refusal_of}
use Rattle.checks.specs.Known.{Sized, Summed}
use Rattle.checks.specs.Refusals.{number}
use Rattle.checks.specs.declared.refusal.Refusal.{Refusal}
use Rattle.opening.specs.declared.Opening.{Opening}
pub mod Laws

-- 5
abbrev pub zero_test : List ℕ → ℕ → Shape → List ℕ → Test
zero_test f end n b = record { number = not_zero; applies = nonzero f (end + 10) 2 || zeros? n b }

-- 9 to 11
abbrev pub node_tests : Shape → List ℕ → List Test
node_tests n b =
    record { number = bad_node; applies = nodes? (file_at n b) }
    ∷ record { number = bad_naming; applies = naming? (file_at n b) }
    ∷ record { number = bad_inside; applies = inside? (file_at n b) }
    ∷ []

-- what is opened: the body, where it begins, and the trailer's shape
pub record Stands (f : List ℕ) (o : Opening) : Type 0 where
  pub shape : o.shape ≡ shape_of (trailer f)
  pub start : o.start + length (body_of f) ≡ end_of f
  pub body : o.body.now ≡ body_of f
  pub sized : Sized o.shape (body_of f)
  pub summed : Summed o.shape (body_of f)

-- a file is opened exactly if no refusal applies
abbrev pub Opens : List ℕ → Result Opening Refusal → Type 0
Opens f (Ok o) = (refusal_of f ≡ 0) × Stands f o
Opens f (Err r) = number r ≡ refusal_of f
