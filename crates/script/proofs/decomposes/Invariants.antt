-- `decomposes` meets its contract. The loop's invariant: no slave below i is of the chart.
use mathlib.Core.Path.{◌≡◌}
use mathlib.Core.Bool.{Bool, false}
use mathlib.Core.List.{List}
use Prim.Native.Nat.{ℕ}
use Rattle.layout.specs.declared.body.Shape.{Shape}
use Rattle.meaning.specs.Sums.{any_up_to}
use Rattle.meaning.specs.Meaning.{same}
use Rattle.meaning.specs.File.{file_at}
use Rattle.script.proofs.decomposes.Given as goal

-- slave i is of chart c
abbrev pub of : Shape → List ℕ → ℕ → ℕ → Bool
of n b c i = same ((file_at n b).master i) c

abbrev pub invariant-loop-i : goal.invariant-loop-i
invariant-loop-i l = any_up_to l.i (of l.n l.body l.c) ≡ false
