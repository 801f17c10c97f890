-- `tell_all` meets its contract. The loop: the charts below c were told, and chart c's transitions begin at `start`.
use mathlib.Core.Path.{◌≡◌}
use lib.ListN.{length}
use Rattle.layout.specs.Body.{start_of}
use Rattle.staying.specs.Staying.{Telling}
use Rattle.staying.proofs.tell_all.Given as goal

abbrev pub invariant-loop-c : goal.invariant-loop-c
invariant-loop-c l =
    (l.start ≡ start_of l.n l.body l.c) × (length l.guards ≡ length l.initial.guards)
    × Telling l.n l.body l.config l.low l.may l.shuts l.masks l.c l.guards l.stays
