-- `shut_by` meets its contract: all states, none that a mask has room for, or one.
use mathlib.Core.Path.{ap, ◌∙◌}
use Rattle.signals.specs.Mask.{bit}
use Rattle.counting.specs.Counting.Laws.{to_all, to_none, to_one}
use Rattle.counting.proofs.shut_by.Goals as goal

pub returns-then-q-s : goal.returns-then-q-s
returns-then-q-s c = to_all _ _ c.if-q-s.true

pub returns-then-s-ge-BITS : goal.returns-then-s-ge-BITS
returns-then-s-ge-BITS c = to_none _ _ c.if-q-s.false c.if-s-ge-BITS.true

pub returns : goal.returns
returns c u = ap (λ x. bit x u) c.single.ensures ∙ to_one _ _ c.if-q-s.false c.if-s-ge-BITS.false u
