-- `sequential` meets its contract.
use mathlib.Core.Path.{refl}
use Rattle.outline.specs.Laws.Forms.{sequential_right}
use Rattle.outline.proofs.sequential.Goals as goal

pub returns : goal.returns
returns c = sequential_right _ _ _ c.requires.1 _ _ c.sequential_at-s.ensures refl refl refl refl refl
