-- `more` meets its contract.
use mathlib.Core.Path.{◌∙◌}
use native.Mathlib.Omega.{arith}
use Rattle.tokens.specs.Laws.Steps.{cap-min}
use Rattle.tokens.proofs.more.Goals as goal

pub returns : goal.returns
returns c = (c.min.ensures ∙ cap-min _, omega (arith, c.min.ensures))
