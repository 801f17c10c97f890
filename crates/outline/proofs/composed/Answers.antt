-- `composed` meets its contract: it is too deep where one level more is too much.
use mathlib.Core.Path.{refl}
use Rattle.outline.specs.Laws.Forms.{composes-deep, too_deep-by, composes-fine}
use Rattle.outline.proofs.composed.Goals as goal

pub returns-then-left-j : goal.returns-then-left-j
returns-then-left-j c =
    composes-deep _ _ _ _ _ (too_deep-by _ _ _ _ _ c.joined-j.ensures c.if-left-j.true)

pub returns : goal.returns
returns c =
    composes-fine _ _ _ _ _ c.joined-j.ensures _ c.if-left-j.false refl refl c.plus.ensures refl refl
