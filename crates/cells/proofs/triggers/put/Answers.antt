-- `cells::triggers::put` meets its contract: two stores.
use mathlib.Core.Path.{refl}
use native.Mathlib.Omega.{arith}
use lib.ListN.{length-set}
use Rattle.cells.specs.Triggers.{put_trigger}
use Rattle.cells.proofs.triggers.put.Goals as goal

pub returns : goal.returns
unfolding put_trigger
returns c = refl

pub bounds-guards-c-2 : goal.bounds-guards-c-2
bounds-guards-c-2 c = simp length-set (omega arith)
