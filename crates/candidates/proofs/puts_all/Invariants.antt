-- `puts_all` meets its contract. The loop: the charts below c have theirs, and chart c's transitions begin at `start`.
use mathlib.Core.Path.{◌≡◌}
use Rattle.layout.specs.Body.{start_of}
use Rattle.candidates.specs.Candidates.{PutsBy}
use Rattle.candidates.proofs.puts_all.Given as goal

abbrev pub invariant-loop-c : goal.invariant-loop-c
invariant-loop-c l = (l.start ≡ start_of l.n l.body l.c) × PutsBy l.n l.body l.config l.reads l.c l.may l.sures l.counts
