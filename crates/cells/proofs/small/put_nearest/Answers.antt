-- `cells::small::put_nearest` meets its contract: two stores.
use native.Mathlib.Omega.{arith}
use lib.ListN.{length-set}
use Rattle.cells.proofs.small.put_nearest.Goals as goal

pub bounds-small-c-2 : goal.bounds-small-c-2
bounds-small-c-2 c = simp length-set (omega arith)
