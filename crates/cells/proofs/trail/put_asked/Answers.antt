-- `cells::trail::put_asked` meets its contract: two stores.
use native.Mathlib.Omega.{arith}
use lib.ListN.{length-set}
use Rattle.cells.proofs.trail.put_asked.Goals as goal

pub bounds-trail-k-2 : goal.bounds-trail-k-2
bounds-trail-k-2 c = simp length-set (omega arith)
