-- `nodes` meets its contract. The loop's invariant: the records of the nodes passed are written.
use mathlib.Core.List.{List}
use Prim.Native.Nat.{ℕ}
use Rattle.layout.specs.Record.{node_bytes}
use Rattle.layout.specs.Body.{node_at}
use Rattle.layout.specs.declared.body.Shape.{Shape}
use Rattle.layout.specs.Put.{Put}
use Rattle.meaning.specs.Rewriting.{in_turn}
use Rattle.clearing.proofs.nodes.Given as goal

abbrev pub written : Shape → List ℕ → ℕ → List ℕ
written n b j = node_bytes (node_at n b j)

abbrev pub invariant-loop-j : goal.invariant-loop-j
invariant-loop-j l = Put l.initial.out l.at (in_turn l.j (written l.n l.body)) l.out l.p
