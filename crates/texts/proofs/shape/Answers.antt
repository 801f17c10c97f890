-- `shape` meets its contract: it is the definition.
use mathlib.Core.Path.{refl}
use Rattle.texts.specs.Shapes.{shape_with}
use Rattle.texts.proofs.shape.Goals as goal

pub returns : goal.returns
unfolding shape_with
returns c = refl
