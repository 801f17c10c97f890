-- `row_room` meets its contract: so many zeros, 26 in each of 8192 rows, are so many. A search would count them.
use mathlib.Core.Path.{sym}
use Prim.Native.Nat.{ℕ, ◌*◌}
use lib.ListN.{length-replicate}
use Rattle.day.proofs.row_room.Goals as goal

pub returns : goal.returns
returns c = sym (length-replicate {0} {A = ℕ} (8192 * 26) 0)
