-- `of_one` meets its contract: of a dead transition nothing is left, of another all of it.
use mathlib.Core.Path.{sym, ◌∙◌}
use Rattle.clearing.proofs.LeftLaws.{one-dead, one_left}
use Rattle.clearing.proofs.of_one.Goals as goal

pub returns-then-is_dead : goal.returns-then-is_dead
returns-then-is_dead c = sym (one-dead _ _ (sym c.is_dead.ensures ∙ c.if-is_dead.true))

pub returns : goal.returns
returns c = sym (one_left _ _ (sym c.is_dead.ensures ∙ c.if-is_dead.false))
