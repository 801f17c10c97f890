-- `line::width` meets its contract. The loop's invariant: what is left has as many digits as are not counted yet, its
-- last one counted before.
use mathlib.Core.Path.{◌≡◌}
use Prim.Native.Nat.{suc, ◌+◌}
use Rattle.line.specs.Line.{width}
use Rattle.line.proofs.width.Given as goal

abbrev pub invariant-loop-left : goal.invariant-loop-left
invariant-loop-left l = l.n + width l.left ≡ suc (width l.x)

abbrev pub decreases-loop-left : goal.decreases-loop-left
decreases-loop-left l = l.left
