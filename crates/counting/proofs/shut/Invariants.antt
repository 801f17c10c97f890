-- `shut` meets its contract. The loop has the states that are shut by the charts passed.
use mathlib.Core.Path.{◌≡◌}
use lib.ListN.{length}
use Rattle.meaning.specs.Numbers.{most_charts}
use Rattle.counting.specs.Counting.{Shuts}
use Rattle.counting.proofs.shut.Given as goal

abbrev pub invariant-loop-d : goal.invariant-loop-d
invariant-loop-d l = (length l.shut ≡ most_charts) × Shuts l.charts l.config l.masters l.states l.counts l.d l.shut
