-- `rows` meets its contract. The loop: what is read of the charts below k stands in the row. Assumes nothing.
use mathlib.Core.Path.{◌≡◌}
use lib.ListN.{length}
use Rattle.meaning.specs.Numbers.{most_charts}
use Rattle.relevance.specs.Relevance.{ReadRow}
use Rattle.relevance.proofs.rows.Given as goal

abbrev pub invariant-loop-k : goal.invariant-loop-k
invariant-loop-k l = (length l.reads ≡ most_charts) × ReadRow l.n l.body l.config l.masks l.k l.reads
