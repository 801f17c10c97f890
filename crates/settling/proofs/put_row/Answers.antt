use mathlib.Core.Path.{◌≡◌, refl}
use Prim.Native.Nat.{◌+◌, ◌≤◌}
use native.Mathlib.Omega.{arith}
use lib.ListN.{length}
use Rattle.layout.specs.Row.Laws.{row_more}
use Rattle.cells.specs.Trail.{low_cell, trail_for}
use Rattle.settling.proofs.put_row.Goals as goal

pub loop-c-preserved : goal.loop-c-preserved
loop-c-preserved c =
    let n : trail_for c.args.k ≤ length c.loop-c.trail = rw c.loop-c.invariant.long c.requires.0 in
    let z : low_cell c.args.k (c.args.from + c.loop-c.c) ≡ low_cell c.args.k c.args.from + c.loop-c.c = omega arith in rw (c.put_low.ensures, z) (row_more (low_cell c.args.k c.args.from) c.loop-c.c _ _
    c.args.trail.now c.loop-c.trail (omega (arith, n, c.requires.2)) refl c.loop-c.invariant)
