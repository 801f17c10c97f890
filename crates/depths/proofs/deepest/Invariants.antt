-- `deepest` meets its contract. The loop's invariant: of the slaves passed it is the deepest.
use mathlib.Core.Path.{◌≡◌}
use Rattle.meaning.specs.File.{file_at}
use Rattle.depths.specs.Depths.{deepest_by}
use Rattle.depths.proofs.deepest.Given as goal

abbrev pub invariant-loop-i : goal.invariant-loop-i
invariant-loop-i l = l.most ≡ deepest_by (file_at l.n l.body) l.deep l.c l.i
