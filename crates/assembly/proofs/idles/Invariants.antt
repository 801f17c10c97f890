-- `idles` meets its contract. The loop's invariant: the idle transitions of the states passed are written.
use mathlib.Core.List.{List}
use Prim.Native.Nat.{ℕ}
use Rattle.layout.specs.Record.{transition_bytes}
use Rattle.meaning.specs.Rewriting.{in_turn}
use Rattle.layout.specs.Put.{Put}
use Rattle.assembly.specs.Records.{idle_with}
use Rattle.assembly.proofs.idles.Given as goal

abbrev pub written : ℕ → ℕ → List ℕ
written inner s = transition_bytes (idle_with inner s)

abbrev pub invariant-loop-s : goal.invariant-loop-s
invariant-loop-s l = Put l.initial.out l.at (in_turn l.s (written l.inner)) l.out l.p
