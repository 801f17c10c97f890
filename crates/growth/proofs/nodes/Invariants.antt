-- `nodes` meets its contract. The loop's invariant: `sum` is where the nodes made for node j begin.
use mathlib.Core.Path.{◌≡◌}
use Prim.Native.Nat.{◌+◌, ◌*◌, ◌≤◌}
use Rattle.meaning.specs.Numbers.{most_slaves}
use Rattle.meaning.specs.File.{file_at}
use Rattle.meaning.specs.Rewriting.{start}
use Rattle.growth.proofs.nodes.Given as goal

abbrev pub invariant-loop-j : goal.invariant-loop-j
invariant-loop-j l = (l.sum ≤ (most_slaves + 2) * l.j) × (l.sum ≡ start (file_at l.n l.body) l.j)
