-- `slaves` meets its contract. The loop's invariant: the records of the slaves passed are written.
use mathlib.Core.List.{List}
use Prim.Native.Nat.{ℕ}
use Rattle.layout.specs.Record.{slave_bytes}
use Rattle.layout.specs.Body.{slave_at}
use Rattle.layout.specs.declared.body.Shape.{Shape}
use Rattle.layout.specs.Put.{Put}
use Rattle.meaning.specs.Rewriting.{in_turn}
use Rattle.clearing.proofs.slaves.Given as goal

abbrev pub written : Shape → List ℕ → ℕ → List ℕ
written n b i = slave_bytes (slave_at n b i)

abbrev pub invariant-loop-i : goal.invariant-loop-i
invariant-loop-i l = Put l.initial.out l.at (in_turn l.i (written l.n l.body)) l.out l.p
