use mathlib.Core.Path.{◌≡◌}
use Prim.Native.Nat.{◌+◌, ◌<◌}
use native.Mathlib.Omega.{arith}
use lib.ListN.{length}
use Rattle.meaning.specs.Numbers.{most_charts}
use Rattle.layout.specs.Row.Laws.{row-none, row_more}
use Rattle.search.proofs.put_column.Goals as goal

pub loop-c-init : goal.loop-c-init
loop-c-init c = row-none _ _ _

pub loop-c-preserved : goal.loop-c-preserved
loop-c-preserved c =
    let n : c.args.at + c.loop-c.c < length c.loop-c.best = omega (arith, c.loop-c.invariant.long, c.requires.0, c.requires.1) in
    row_more c.args.at c.loop-c.c _ _ _ c.loop-c.best n c.entry.ensures c.loop-c.invariant

pub returns : goal.returns
returns c =
    let e : c.loop-c.c ≡ most_charts = omega arith in
    rw e at c.loop-c.invariant

pub overflow_add-best : goal.overflow_add-best
overflow_add-best c = omega arith

pub bounds-best-at : goal.bounds-best-at
bounds-best-at c = omega arith
