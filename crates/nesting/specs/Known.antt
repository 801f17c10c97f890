-- What is known of a body whose nodes are walked.
use Rattle.std.specs.Prelude.{List, ℕ}
use Rattle.layout.specs.declared.body.Shape.{Shape}
use Rattle.meaning.specs.File.{file_at}
use Rattle.meaning.specs.Check.Nodes.{Sound}
use Rattle.checks.specs.Known.{Sized}

-- it passed the file check, as far as its nodes and slaves go
pub record Wirable (n : Shape) (b : List ℕ) : Type 0 where
  pub sized : Sized n b
  pub sound : Sound (file_at n b)
