-- `all_out` meets its contract. The loop: all that the charts below c put out comes out. Assumes nothing.
use mathlib.Core.Path.{◌≡◌}
use mathlib.Core.Bool.{true}
use Rattle.meaning.specs.Meaning.{same}
use Rattle.meaning.specs.Laws.Bools.{every}
use Rattle.wiring.specs.Reach.{full}
use Rattle.cells.specs.Table.{up_at}
use Rattle.relevance.proofs.all_out.Given as goal

abbrev pub invariant-loop-c : goal.invariant-loop-c
invariant-loop-c l = every l.c (λ d. same (up_at l.masks d) full) ≡ true
