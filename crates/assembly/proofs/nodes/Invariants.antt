-- `nodes` meets its contract. The loop's invariant: the nodes for the nodes passed are written, and `first` is the next
-- one's name.
use mathlib.Core.Path.{◌≡◌}
use mathlib.Core.List.{List}
use Prim.Native.Nat.{ℕ}
use Rattle.layout.specs.declared.body.Shape.{Shape}
use Rattle.meaning.specs.File.{file_at}
use Rattle.meaning.specs.Rewriting.{start, made_for, in_turn}
use Rattle.layout.specs.Put.{Put}
use Rattle.assembly.specs.Records.{nodes_bytes}
use Rattle.assembly.proofs.nodes.Given as goal

abbrev pub written : Shape → List ℕ → ℕ → List ℕ
written n b j = nodes_bytes (made_for (file_at n b) j)

abbrev pub invariant-loop-j : goal.invariant-loop-j
invariant-loop-j l = (l.first ≡ start (file_at l.n l.body) l.j) × Put l.initial.out l.at (in_turn l.j (written l.n l.body)) l.out l.p
