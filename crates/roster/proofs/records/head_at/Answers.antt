-- `head_at` meets its contract: the numbers of a chart to which 52 does not apply are small.
use mathlib.Core.Path.{refl}
use Rattle.roster.specs.Laws.Right.{head-right}
use Rattle.roster.proofs.records.head_at.Goals as goal

pub returns : goal.returns
returns c =
    head-right _ _ _ _ c.sequential_at-s.ensures c.byte.ensures c.byte-2.ensures c.byte-3.ensures
    refl refl
