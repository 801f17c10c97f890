-- The body of a chart file (RULES 2.1): charts, transitions, slaves and nodes, in this order, each by its number.
use Rattle.std.specs.Prelude.{◌≡◌, List, [], ◌∷◌, ℕ, zero, suc, ◌+◌, ◌*◌, length, drop}
use Rattle.layout.specs.Record.{head_of, transition_of, slave_of, node_of}
use Rattle.layout.specs.declared.body.Shape.{Shape}
use Rattle.layout.specs.declared.record.Head.{Head}
use Rattle.layout.specs.declared.record.Transition.{Transition}
use Rattle.layout.specs.declared.record.Slave.{Slave}
use Rattle.layout.specs.declared.record.Node.{Node}
pub mod Laws

-- where the transitions, the slaves and the nodes begin, and the body's size (RULES 2.1)
abbrev pub transitions_from : Shape → ℕ
transitions_from n = 24 * n.charts

abbrev pub slaves_from : Shape → ℕ
slaves_from n = transitions_from n + 28 * n.transitions

abbrev pub nodes_from : Shape → ℕ
nodes_from n = slaves_from n + 4 * n.slaves

abbrev pub size_of : Shape → ℕ
size_of n = nodes_from n + 20 * n.nodes

-- the bytes are a body of this shape
abbrev pub Holds : Shape → List ℕ → Type 0
Holds n b = length b ≡ size_of n

-- chart c; transition t, counted through all charts; slave i; node j (RULES 2.3 to 2.6)
unfoldable pub head_at : Shape → List ℕ → ℕ → Head
head_at n b c = head_of (drop (24 * c) b)

unfoldable pub transition_at : Shape → List ℕ → ℕ → Transition
transition_at n b t = transition_of (drop (transitions_from n + 28 * t) b)

unfoldable pub slave_at : Shape → List ℕ → ℕ → Slave
slave_at n b i = slave_of (drop (slaves_from n + 4 * i) b)

unfoldable pub node_at : Shape → List ℕ → ℕ → Node
node_at n b j = node_of (drop (nodes_from n + 20 * j) b)

-- where the transitions of chart c begin: how many the lower charts have (RULES 2.4)
unfoldable pub start_of : Shape → List ℕ → ℕ → ℕ
start_of n b zero = 0
start_of n b (suc c) = start_of n b c + (head_at n b c).transitions

-- f at k, k + 1, .. (n of them)
unfoldable pub from : {A : Type 0} → (ℕ → A) → ℕ → ℕ → List A
from f k zero = []
from f k (suc n) = f k ∷ from f (suc k) n

-- the transitions of chart c (RULES 2.4)
unfoldable pub transitions_of : Shape → List ℕ → ℕ → List Transition
transitions_of n b c = from (transition_at n b) (start_of n b c) (head_at n b c).transitions
