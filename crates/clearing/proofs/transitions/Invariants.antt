-- `transitions` meets its contract. The loop's invariant: what is left in the charts passed is written, and `start` is
-- where the next one's transitions begin.
use mathlib.Core.Path.{◌≡◌}
use mathlib.Core.List.{List}
use Prim.Native.Nat.{ℕ}
use Rattle.layout.specs.Body.{start_of}
use Rattle.layout.specs.declared.body.Shape.{Shape}
use Rattle.layout.specs.Put.{Put}
use Rattle.meaning.specs.File.{file_at}
use Rattle.meaning.specs.Rewriting.{in_turn, transitions_bytes}
use Rattle.clearing.specs.Clearing.{cleared_chart}
use Rattle.clearing.proofs.transitions.Given as goal

abbrev pub written : Shape → List ℕ → ℕ → List ℕ
written n b c = transitions_bytes (cleared_chart ((file_at n b).chart c)).transitions

abbrev pub invariant-loop-c : goal.invariant-loop-c
invariant-loop-c l = (l.start ≡ start_of l.n l.body l.c) × Put l.initial.out l.at (in_turn l.c (written l.n l.body)) l.out l.p
