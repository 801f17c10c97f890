-- `chart` meets its contract. The loop's invariant: what is left of the transitions passed is written.
use mathlib.Core.List.{List}
use Prim.Native.Nat.{ℕ, ◌+◌}
use Rattle.layout.specs.Body.{transition_at}
use Rattle.layout.specs.declared.body.Shape.{Shape}
use Rattle.layout.specs.Put.{Put}
use Rattle.meaning.specs.Meaning.{Set}
use Rattle.meaning.specs.Rewriting.{in_turn}
use Rattle.clearing.specs.Left.{kept_bytes}
use Rattle.clearing.proofs.chart.Given as goal

abbrev pub written : Shape → List ℕ → ℕ → Set → ℕ → List ℕ
written n b start fed k = kept_bytes fed (transition_at n b (start + k))

abbrev pub invariant-loop-k : goal.invariant-loop-k
invariant-loop-k l = Put l.initial.out l.at (in_turn l.k (written l.n l.body l.start l.fed)) l.out l.p
