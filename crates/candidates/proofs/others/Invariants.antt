-- `others` meets its contract. The loop joins what the charts below e might put in, chart c's own left out. Assumes
-- nothing.
use mathlib.Core.Path.{◌≡◌}
use mathlib.Core.Bool.{cond}
use lib.ListN.{get_or}
use Rattle.signals.specs.Mask.{◌∩◌}
use Rattle.meaning.specs.Meaning.{same}
use Rattle.meaning.specs.Rewriting.{union_up_to}
use Rattle.cells.specs.Table.{back_at}
use Rattle.candidates.proofs.others.Given as goal

abbrev pub invariant-loop-e : goal.invariant-loop-e
invariant-loop-e l = l.u ≡ union_up_to l.e (λ d. cond (same d l.c) 0 (get_or l.may d 0) ∩ back_at l.masks l.c d)
