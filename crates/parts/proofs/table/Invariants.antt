-- `parts::table` meets its contract. The loop's invariant: the table is right below j. Assumes nothing.
use mathlib.Core.Path.{◌≡◌}
use lib.ListN.{length}
use Rattle.meaning.specs.Numbers.{most_nodes}
use Rattle.meaning.specs.File.{file_at}
use Rattle.parts.specs.Parts.{Filled}
use Rattle.parts.proofs.table.Given as goal

abbrev pub invariant-loop-j : goal.invariant-loop-j
invariant-loop-j l = (length l.t ≡ most_nodes) × Filled (file_at l.n l.body) l.own l.off l.t l.j
