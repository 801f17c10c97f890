-- `asked_all` meets its contract. The loop: what the charts below c look for stands in the row, and chart c's
-- transitions begin at `start`. Assumes nothing.
use mathlib.Core.Path.{◌≡◌}
use lib.ListN.{length}
use Rattle.layout.specs.Body.{start_of}
use Rattle.meaning.specs.Numbers.{most_charts}
use Rattle.relevance.specs.Relevance.{Asks}
use Rattle.relevance.proofs.asked_all.Given as goal

abbrev pub invariant-loop-c : goal.invariant-loop-c
invariant-loop-c l = (l.start ≡ start_of l.n l.body l.c) × (length l.asks ≡ most_charts) × Asks l.n l.body l.config l.c l.asks
