-- `used_by_nodes` meets its contract. The loop's invariant: the sets of the nodes passed are joined.
use mathlib.Core.Path.{◌≡◌}
use Rattle.signals.specs.Mask.{◌∪◌}
use Rattle.meaning.specs.File.{file_at}
use Rattle.meaning.specs.Rewriting.{union_up_to}
use Rattle.allocation.proofs.used_by_nodes.Given as goal

abbrev pub invariant-loop-j : goal.invariant-loop-j
invariant-loop-j l = l.all ≡ union_up_to l.j (λ j. (file_at l.n l.body).x j ∪ (file_at l.n l.body).y j)
