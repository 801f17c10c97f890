-- `cells::small::put_candidate` meets its contract: two stores.
use mathlib.Core.Path.{refl}
use native.Mathlib.Omega.{arith}
use lib.ListN.{length-set}
use Rattle.cells.specs.Table.{put_small}
use Rattle.cells.proofs.small.put_candidate.Goals as goal

pub returns : goal.returns
unfolding put_small
returns c = refl

pub bounds-small-c-2 : goal.bounds-small-c-2
bounds-small-c-2 c = simp length-set (omega arith)
