-- `refused` meets its contract.
use mathlib.Core.Path.{ap₂, ap}
use mathlib.Core.Bool.{◌||◌}
use Rattle.lists.proofs.refused.Goals as goal

pub returns : goal.returns
returns c =
    let a = c.args in
    ap₂ (◌||◌) c.lacks.ensures (ap (◌|| a.bad) c.lacks-2.ensures)
