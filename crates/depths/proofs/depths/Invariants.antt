-- `depths` meets its contract. The loop's invariant: the table is right below j.
use mathlib.Core.Path.{◌≡◌}
use lib.ListN.{length}
use Rattle.meaning.specs.Numbers.{most_nodes}
use Rattle.meaning.specs.File.{file_at}
use Rattle.depths.specs.Depths.{Depths}
use Rattle.depths.proofs.depths.Given as goal

abbrev pub invariant-loop-j : goal.invariant-loop-j
invariant-loop-j l = (length l.deep ≡ most_nodes) × Depths (file_at l.n l.body) l.deep l.j
