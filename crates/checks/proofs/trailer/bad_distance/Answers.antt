-- `trailer::bad_distance` meets its contract: the size is that of the trailer's shape. Assumes nothing.
use mathlib.Core.Path.{refl}
use native.Mathlib.Omega.{arith}
use Rattle.meaning.specs.Meaning.{same}
use Rattle.meaning.specs.File.{shape_of}
use Rattle.checks.proofs.trailer.bad_distance.Goals as goal

pub size-requires : goal.size-requires
unfolding shape_of
size-requires c = rw c.shape.ensures (omega arith)

pub returns : goal.returns
unfolding same
returns c = rw (c.size.ensures, c.shape.ensures) refl
