use mathlib.Core.Path.{refl}
use Rattle.meaning.specs.File.{shape_of}
use Rattle.checks.proofs.trailer.shape.Goals as goal

pub returns : goal.returns
unfolding shape_of
returns c = refl
