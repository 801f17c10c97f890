-- `typed::number` meets its contract.
use mathlib.Core.Path.{sym, ◌∙◌}
use Rattle.typed.specs.Typed.{number_of}
use Rattle.typed.proofs.number.Goals as goal

pub returns-then-not-begun : goal.returns-then-not-begun
unfolding number_of
returns-then-not-begun c = rw (sym c.begun.ensures ∙ c.if-not-begun.true)

pub returns : goal.returns
unfolding number_of
returns c = rw (sym c.begun.ensures ∙ c.if-not-begun.false) c.digits.ensures
