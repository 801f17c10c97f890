-- `guard` meets its contract. The loop's invariant: what the guard says of the signals below s is written.
use mathlib.Core.Path.{◌≡◌}
use lib.ListN.{length}
use Rattle.notation.specs.Grammar.{amp, of_literal}
use Rattle.spelling.specs.Typed.{from_all, said_of}
use Rattle.printing.specs.Prints.{Prints}
use Rattle.printing.specs.Separated.{in_turn}
use Rattle.printing.proofs.guards.guard.Given as goal

abbrev pub invariant-loop-s : goal.invariant-loop-s
invariant-loop-s l = (length l.out ≡ length l.initial.out) × Prints l.initial.out l.first (in_turn amp of_literal (from_all l.s (said_of l.x l.y))) l.out l.at
