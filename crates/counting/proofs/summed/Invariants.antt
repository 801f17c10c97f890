-- `summed` meets its contract. The loop has the sum over staying and the transitions passed, which is small; the next
-- begins at `at`.
use mathlib.Core.Path.{◌≡◌}
use Prim.Native.Nat.{◌+◌, ◌*◌}
use Rattle.counting.specs.Counting.{sum_in}
use Rattle.counting.proofs.summed.Given as goal

abbrev pub invariant-loop-p : goal.invariant-loop-p
invariant-loop-p l = (l.at ≡ 24 * l.n.charts + 28 * (l.start + l.p)) × (l.total ≡ sum_in l.n l.body l.masters l.states l.counts l.c l.q l.p)
