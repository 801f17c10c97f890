use mathlib.Core.Path.{◌≡◌, ap, ◌∙◌}
use mathlib.Core.List.{[], ◌∷◌}
use Prim.Native.Nat.{ℕ, ◌+◌, ◌≤◌}
use native.Mathlib.Omega.{arith}
use lib.ListN.{length, get_or}
use Rattle.signals.specs.Mask.{◌∪◌, ◌∩◌}
use Rattle.signals.specs.Decide.{sets, A, B, C, ∅ₑ, ◌∪ₑ◌, ◌∩ₑ◌, ◌≐◌}
use Rattle.layout.specs.Row.Laws.{row-none, row_more, row_same}
use Rattle.cells.specs.Table.{back_row, back_cell, masks_for}
use Rattle.plan.proofs.feed_row.Goals as goal
use Rattle.plan.proofs.feed_row.Goals.{At-loop-c}

nothing : (x m y : ℕ) → m ≡ 0 → x ≡ x ∪ (m ∩ y)
nothing x m y e = sets (x ∷ m ∷ y ∷ []) (B ≐ ∅ₑ ∷ []) (A ≐ A ∪ₑ (B ∩ₑ C)) tt e

pub returns-then-m-eq0 : goal.returns-then-m-eq0
returns-then-m-eq0 c =
    let a = c.args in
    row_same _ _ _ _ (λ k p. nothing _ _ (get_or a.offered.now k 0) c.if-m-eq0.true)

pub loop-c-init : goal.loop-c-init
loop-c-init c = row-none _ _ _

-- the masks are as many as they were
roomy : (t : At-loop-c) → masks_for (t.args.d + 1) ≤ length t.loop-c.masks
roomy t = omega (arith, t.loop-c.invariant.long, t.requires.0, t.requires.2)

pub loop-c-preserved : goal.loop-c-preserved
loop-c-preserved c =
    let a = c.args in
    let e = ap (λ (x : ℕ). x ∪ (a.m ∩ get_or a.offered.now c.loop-c.c 0))
    (c.back.ensures ∙ c.loop-c.invariant.above (back_cell c.loop-c.c a.d) (omega arith)) in rw c.put_back.ensures
    (row_more (back_row a.d) c.loop-c.c _ _ a.masks.now c.loop-c.masks (omega (arith, roomy (goal.at.loop-c-preserved c).At-loop-c)) e c.loop-c.invariant)

pub returns : goal.returns
returns c =
    let e : c.loop-c.c ≡ c.args.charts = omega arith in
    rw e at c.loop-c.invariant

pub back-requires : goal.back-requires
back-requires c =
    (roomy (goal.at.back-requires c).At-loop-c, omega (arith, c.requires.1), omega (arith, c.requires.1, c.requires.2))

pub offset_bounds-offered-c : goal.offset_bounds-offered-c
offset_bounds-offered-c c = omega arith

pub bounds-offered-c : goal.bounds-offered-c
bounds-offered-c c = omega arith

pub put_back-requires : goal.put_back-requires
put_back-requires c =
    (roomy (goal.at.put_back-requires c).At-loop-c, omega (arith, c.requires.1), omega (arith, c.requires.1, c.requires.2))

pub shape_of-masks : goal.shape_of-masks
shape_of-masks c = c.loop-c.invariant.long
