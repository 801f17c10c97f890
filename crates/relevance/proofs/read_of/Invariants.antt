-- `read_of` meets its contract. The loop joins what the charts below c look for and get. Assumes nothing.
use mathlib.Core.Path.{◌≡◌}
use lib.ListN.{get_or}
use Rattle.signals.specs.Mask.{◌∩◌}
use Rattle.meaning.specs.Rewriting.{union_up_to}
use Rattle.cells.specs.Table.{back_at}
use Rattle.relevance.proofs.read_of.Given as goal

abbrev pub invariant-loop-c : goal.invariant-loop-c
invariant-loop-c l = l.u ≡ union_up_to l.c (λ d. back_at l.masks d l.k ∩ get_or l.asks d 0)
