use mathlib.Core.Path.{◌≡◌, refl, subst}
use Prim.Native.Nat.{◌*◌}
use native.Mathlib.Omega.{arith}
use Rattle.meaning.specs.Numbers.{most_charts}
use Rattle.cells.specs.Table.{block}
use Rattle.tables.specs.Insertion.{AheadRow}
use Rattle.layout.specs.Row.Laws.{row-none, row_more}
use Rattle.candidates.proofs.clear_row.Goals as goal

pub loop-c-preserved : goal.loop-c-preserved
loop-c-preserved c =
    let a = c.args in rw c.put_ahead.ensures (row_more (block * a.charts) c.loop-c.c 0
    (λ d. 0) a.masks.now c.loop-c.masks (omega (arith, c.loop-c.invariant.long)) refl c.loop-c.invariant)

pub returns : goal.returns
returns c =
    let a = c.args in
    let e : c.loop-c.c ≡ most_charts = omega arith in
    subst (λ n. AheadRow a.charts (λ d. 0) n a.masks.now c.loop-c.masks) e c.loop-c.invariant
