-- `list_all` meets its contract. The loop: the charts below c have their candidates. Assumes nothing.
use mathlib.Core.Path.{◌≡◌}
use Rattle.layout.specs.Body.{start_of}
use Rattle.candidates.specs.Candidates.{UntilChart}
use Rattle.candidates.proofs.list_all.Given as goal

abbrev pub invariant-loop-c : goal.invariant-loop-c
invariant-loop-c l = (l.start ≡ start_of l.n l.body l.c) × UntilChart l.n l.body l.config l.reads l.lows l.shuts l.initial.masks l.initial.small l.c l.masks l.small
