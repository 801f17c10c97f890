-- `raise_sure` meets its contract. The loop: the charts below c have put theirs in.
use mathlib.Core.Path.{◌≡◌}
use lib.ListN.{length}
use Rattle.meaning.specs.Numbers.{most_charts}
use Rattle.candidates.specs.Candidates.{RaisedBy}
use Rattle.candidates.proofs.raise_sure.Given as goal

abbrev pub invariant-loop-c : goal.invariant-loop-c
invariant-loop-c l = (length l.low ≡ most_charts) × RaisedBy l.n l.masks l.small l.sures l.c l.initial.low l.low
