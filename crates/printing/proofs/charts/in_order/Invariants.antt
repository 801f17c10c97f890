-- `in_order` meets its contract. The loop's invariant: the first k transitions are written.
use mathlib.Core.Path.{◌≡◌}
use lib.ListN.{length}
use Rattle.layout.specs.Body.{transition_at}
use Rattle.notation.specs.Grammar.{comma, of_transition}
use Rattle.printing.specs.Prints.{Prints}
use Rattle.printing.specs.Separated.{in_turn}
use Rattle.printing.specs.Laws.Forms.{typed_from}
use Rattle.printing.proofs.charts.in_order.Given as goal

abbrev pub invariant-loop-k : goal.invariant-loop-k
invariant-loop-k l =
    (length l.out ≡ length l.initial.out)
    × Prints l.initial.out l.first (in_turn comma of_transition (typed_from (transition_at l.n l.body) l.start l.k)) l.out l.at
