-- `inside::lows` meets its contract. The loop's invariant: the table is right below j. Assumes nothing.
use mathlib.Core.Path.{◌≡◌}
use lib.ListN.{length}
use Rattle.meaning.specs.Numbers.{most_nodes}
use Rattle.meaning.specs.File.{file_at}
use Rattle.naming.specs.Inside.{Lows}
use Rattle.naming.proofs.inside.lows.Given as goal

abbrev pub invariant-loop-j : goal.invariant-loop-j
invariant-loop-j l = (length l.low ≡ most_nodes) × Lows (file_at l.n l.body) l.low l.j
