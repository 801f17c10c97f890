-- `put_states` meets its contract. The loop writes the states, chart by chart. Assumes nothing.
use Rattle.candidates.specs.Candidates.{Stated}
use Rattle.candidates.proofs.put_states.Given as goal

abbrev pub invariant-loop-c : goal.invariant-loop-c
invariant-loop-c l = Stated l.config l.c l.initial.small l.small
