-- `nodes::bad_nodes` meets its contract. The loop's invariant: no node passed is bad. Assumes nothing.
use mathlib.Core.Path.{◌≡◌}
use mathlib.Core.Bool.{false}
use Rattle.layout.specs.Body.{node_at}
use Rattle.meaning.specs.Sums.{any_up_to}
use Rattle.meaning.specs.File.{file_at}
use Rattle.meaning.specs.Check.{node_of_kind?}
use Rattle.naming.proofs.nodes.bad_nodes.Given as goal

abbrev pub invariant-loop-j : goal.invariant-loop-j
invariant-loop-j l = any_up_to l.j (λ k. node_of_kind? (file_at l.n l.body) (node_at l.n l.body k).kind k) ≡ false
