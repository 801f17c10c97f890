-- `heads` meets its contract. The loop's invariant: the heads of the charts passed are written.
use mathlib.Core.List.{List}
use Prim.Native.Nat.{ℕ}
use Rattle.layout.specs.Record.{head_bytes}
use Rattle.layout.specs.declared.body.Shape.{Shape}
use Rattle.meaning.specs.File.{file_at}
use Rattle.meaning.specs.Rewriting.{rewritten_chart, head_for, in_turn}
use Rattle.layout.specs.Put.{Put}
use Rattle.assembly.proofs.heads.Given as goal

abbrev pub written : Shape → List ℕ → ℕ → List ℕ
written n b c = head_bytes (head_for (rewritten_chart (file_at n b) c))

abbrev pub invariant-loop-c : goal.invariant-loop-c
invariant-loop-c l = Put l.initial.out l.at (in_turn l.c (written l.n l.body)) l.out l.p
