-- `deciding::decide` meets its contract.
use mathlib.Core.Path.{ap, ◌∙◌}
use Rattle.checks.specs.Refusals.{told}
use Rattle.desk.specs.Turns.{decided_of}
use Rattle.desk.proofs.Turns.Posted.{told-and}
use Rattle.deciding.proofs.decide.Goals as goal

pub returns : goal.returns
unfolding decided_of
returns c = ap told c.and.ensures ∙ told-and c.args.s.tested c.verdict.result ∙ rw c.verdict.ensures
