-- `slaves_of` meets its contract. The loop's invariant: of the slaves passed the chart's are counted.
use mathlib.Core.Path.{◌≡◌}
use Prim.Native.Nat.{◌≤◌}
use Rattle.meaning.specs.File.{file_at}
use Rattle.meaning.specs.Rewriting.{count}
use Rattle.growth.proofs.slaves_of.Given as goal

abbrev pub invariant-loop-i : goal.invariant-loop-i
invariant-loop-i l = (l.times ≤ l.i) × (l.times ≡ count (file_at l.n l.body) l.c l.i)
