-- What is known of a body once checks have passed, as the later checks and the readers need it. Laws are in
-- Known/Laws.antt and, of a node, Known/Node.antt.
use Rattle.std.specs.Prelude.{◌≡◌, false, List, ℕ, ◌≤◌, ◌<◌}
use Rattle.layout.specs.Body.{Holds, start_of}
use Rattle.layout.specs.declared.body.Shape.{Shape}
use Rattle.meaning.specs.Numbers.{most_charts, most_slaves, most_nodes, most_transitions}
use Rattle.meaning.specs.File.{file_at}
use Rattle.meaning.specs.Check.{slaves?, nodes?}
pub mod Laws
pub mod Node

-- after 3 and 4: the counts are within their limits and make the body's size
pub record Sized (n : Shape) (b : List ℕ) : Type 0 where
  pub holds : Holds n b
  pub some_chart : 0 < n.charts
  pub charts : n.charts ≤ most_charts
  pub transitions : n.transitions ≤ most_transitions
  pub slaves : n.slaves ≤ most_slaves
  pub some_node : 0 < n.nodes
  pub nodes : n.nodes ≤ most_nodes

-- after 6: the transitions of all charts add up to the trailer's number
abbrev pub Summed : Shape → List ℕ → Type 0
Summed n b = start_of n b n.charts ≡ n.transitions

-- after 8 and 9: slaves and nodes name what is there
pub record Ranged (n : Shape) (b : List ℕ) : Type 0 where
  pub sized : Sized n b
  pub slaves : slaves? (file_at n b) ≡ false
  pub nodes : nodes? (file_at n b) ≡ false
