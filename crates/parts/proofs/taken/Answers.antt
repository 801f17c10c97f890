-- `parts::taken` meets its contract: each variant's own set. Assumes nothing.
use mathlib.Core.Path.{ap, sym}
use Rattle.parts.specs.Parts.{off_of}
use Rattle.parts.proofs.taken.Goals as goal

pub returns-in-Input : goal.returns-in-Input
returns-in-Input c = let a = c.args in sym (ap (λ o. off_of o a.x a.y) c.in-Input.is)

pub returns-in-Output : goal.returns-in-Output
returns-in-Output c = let a = c.args in sym (ap (λ o. off_of o a.x a.y) c.in-Output.is)
