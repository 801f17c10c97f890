-- `search::entry` meets its contract: the column has what each chart has, and the filler behind the charts.
use mathlib.Core.Path.{sym, ◌∙◌}
use Prim.Native.Nat.{◌+◌, ◌*◌}
use lib.ListN.{get_or}
use Rattle.cells.specs.Trail.{steps}
use Rattle.settling.specs.Trail.Laws.{filled_made, filled_behind}
use Rattle.search.proofs.entry.Goals as goal

pub returns-then-c-charts : goal.returns-then-c-charts
returns-then-c-charts c =
    let a = c.args in
    c.entry.ensures
    ∙ sym (filled_made a.charts
    (λ d. get_or a.moves.now (steps * d + a.column) 0) a.filler a.c c.if-c-charts.true)

pub returns-else-c-charts : goal.returns-else-c-charts
returns-else-c-charts c =
    let a = c.args in
    sym (filled_behind a.charts
    (λ d. get_or a.moves.now (steps * d + a.column) 0) a.filler a.c c.if-c-charts.false c.requires.2)
