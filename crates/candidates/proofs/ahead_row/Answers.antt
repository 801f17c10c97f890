use mathlib.Core.Path.{◌≡◌, ap₂, subst, ◌∙◌}
use Prim.Native.Nat.{ℕ, ◌*◌, ◌≤◌}
use native.Mathlib.Omega.{arith}
use lib.ListN.{length}
use Rattle.signals.specs.Mask.{◌∪◌, ◌∩◌}
use Rattle.cells.specs.Table.{block, masks_for}
use Rattle.tables.specs.Insertion.{AheadRow, ahead_by}
use Rattle.layout.specs.Row.Laws.{row-none, row_more}
use Rattle.tables.specs.Insertion.Laws.{row-value}
use Rattle.candidates.proofs.ahead_row.Goals as goal
use Rattle.candidates.proofs.ahead_row.Goals.{At-loop-c}

-- the masks are as many as they were
roomy : (t : At-loop-c) → masks_for t.args.charts ≤ length t.loop-c.masks
roomy t = rw t.loop-c.invariant.long t.requires.0

pub loop-c-preserved : goal.loop-c-preserved
loop-c-preserved c =
    let a = c.args in
    let e : a.u ∩ c.back.result ∪ c.ahead-later.result ≡ ahead_by a.masks.now a.k a.u c.loop-c.c =
    ap₂ (λ (x y : ℕ). a.u ∩ x ∪ y) c.back.ensures c.ahead-later.ensures
    ∙ row-value a.k _ c.loop-c.c _ c.loop-c.masks a.u c.loop-c.invariant (omega arith) (omega arith) in rw c.put_ahead.ensures
    (row_more (block * a.k) c.loop-c.c _ _ a.masks.now c.loop-c.masks (omega (arith, roomy (goal.at.loop-c-preserved c).At-loop-c)) e c.loop-c.invariant)

pub returns : goal.returns
returns c =
    let a = c.args in
    let e : c.loop-c.c ≡ a.charts = omega arith in
    subst (λ n. AheadRow a.k (ahead_by a.masks.now a.k a.u) n a.masks.now c.loop-c.masks) e c.loop-c.invariant
