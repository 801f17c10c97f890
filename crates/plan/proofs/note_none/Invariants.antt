-- `plan::note_none` meets its contract: the charts below c are noted. Assumes nothing.
use mathlib.Core.Path.{◌≡◌}
use lib.ListN.{length}
use Rattle.plan.specs.Noted.{NotedNone}
use Rattle.plan.proofs.note_none.Given as goal

abbrev pub invariant-loop-c : goal.invariant-loop-c
invariant-loop-c l = (length l.small ≡ length l.initial.small) × NotedNone l.c l.small
