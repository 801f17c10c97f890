-- `over_from` meets its contract. The loop's invariant: no chart passed has a state with over `most` out, and `start`
-- is where the next one's transitions begin.
use mathlib.Core.Path.{◌≡◌}
use mathlib.Core.Bool.{Bool, false}
use mathlib.Core.List.{List}
use Prim.Native.Nat.{ℕ}
use lib.Dec.{ltb}
use Rattle.layout.specs.Body.{start_of}
use Rattle.layout.specs.declared.body.Shape.{Shape}
use Rattle.meaning.specs.Sums.{any_up_to}
use Rattle.meaning.specs.File.{file_at}
use Rattle.meaning.specs.Rewriting.{rewritten_chart, leaving_in}
use Rattle.growth.proofs.over_from.Given as goal

-- chart c has a state with over m out
abbrev pub over : Shape → List ℕ → ℕ → ℕ → Bool
over n b m c = any_up_to (rewritten_chart (file_at n b) c).states
    (λ s. ltb m (leaving_in (rewritten_chart (file_at n b) c).transitions s))

abbrev pub invariant-loop-c : goal.invariant-loop-c
invariant-loop-c l = (l.start ≡ start_of l.n l.body l.c) × (any_up_to l.c (over l.n l.body l.most) ≡ false)
