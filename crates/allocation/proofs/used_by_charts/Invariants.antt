-- `used_by_charts` meets its contract. The loop's invariant: the sets of the charts passed are joined, and `start` is
-- where the next one's transitions begin.
use mathlib.Core.Path.{◌≡◌}
use mathlib.Core.List.{List}
use Prim.Native.Nat.{ℕ}
use Rattle.signals.specs.Mask.{◌∪◌}
use Rattle.layout.specs.Body.{start_of}
use Rattle.layout.specs.declared.body.Shape.{Shape}
use Rattle.meaning.specs.Meaning.{Set, guards, actions}
use Rattle.meaning.specs.File.{file_at}
use Rattle.meaning.specs.Rewriting.{union_up_to}
use Rattle.allocation.proofs.used_by_charts.Given as goal

-- the sets of chart c
abbrev pub of_chart : Shape → List ℕ → ℕ → Set
of_chart n b c =
    guards ((file_at n b).chart c).transitions ∪ actions ((file_at n b).chart c).transitions
    ∪ ((file_at n b).chart c).feedback
    ∪ ((file_at n b).chart c).extra

abbrev pub invariant-loop-c : goal.invariant-loop-c
invariant-loop-c l = (l.start ≡ start_of l.n l.body l.c) × (l.all ≡ union_up_to l.c (of_chart l.n l.body))
