-- `cells::masks::put_candidate` meets its contract: three stores.
use mathlib.Core.Path.{refl}
use native.Mathlib.Omega.{arith}
use lib.ListN.{length-set}
use Rattle.cells.specs.Table.{put_masks}
use Rattle.cells.proofs.masks.put_candidate.Goals as goal

pub returns : goal.returns
unfolding put_masks
returns c = refl

pub bounds-masks-c-2 : goal.bounds-masks-c-2
bounds-masks-c-2 c = simp length-set (omega arith)

pub bounds-masks-c-3 : goal.bounds-masks-c-3
bounds-masks-c-3 c = simp length-set (omega arith)
