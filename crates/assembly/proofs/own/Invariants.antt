-- `own` meets its contract. The loop's invariant: the own transitions passed are written, with their call signals.
use mathlib.Core.List.{List}
use Prim.Native.Nat.{ℕ, ◌+◌}
use Rattle.layout.specs.Record.{transition_bytes}
use Rattle.layout.specs.Body.{transition_at}
use Rattle.layout.specs.declared.body.Shape.{Shape}
use Rattle.layout.specs.declared.record.Transition.{Transition}
use Rattle.meaning.specs.Meaning.{Set}
use Rattle.meaning.specs.File.{file_at}
use Rattle.meaning.specs.Rewriting.{calls_by, in_turn}
use Rattle.layout.specs.Put.{Put}
use Rattle.assembly.specs.Records.{called_with}
use Rattle.assembly.proofs.own.Given as goal

abbrev pub new : Shape → List ℕ → Set → ℕ → ℕ → Transition
new n b inner c k = called_with inner (calls_by (file_at n b) c (transition_at n b k)) (transition_at n b k)

abbrev pub written : Shape → List ℕ → Set → ℕ → ℕ → ℕ → List ℕ
written n b inner c start k = transition_bytes (new n b inner c (start + k))

abbrev pub invariant-loop-k : goal.invariant-loop-k
invariant-loop-k l = Put l.initial.out l.at (in_turn l.k (written l.n l.body l.inner l.c l.start)) l.out l.p
