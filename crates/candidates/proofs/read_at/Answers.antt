-- `read_at` meets its contract: the transition, its action cut. Assumes nothing.
use mathlib.Core.Path.{ap}
use Rattle.tables.specs.Narrowing.{narrow}
use Rattle.candidates.proofs.read_at.Goals as goal

pub returns : goal.returns
returns c = ap (narrow c.args.read) c.read_transition-r.ensures
