-- A chart has parts, which may be compositions in brackets, hidden charts and masters with slaves, each of which has
-- charts one level further in. What is left of the levels falls; where it stays, the functions stand in an order.
use Rattle.std.proofs.Common.{◌+◌, ◌-◌, ◌*◌, ◌∷◌, ◌++◌, length, drop}
use Rattle.notation.specs.Syntax.{Slaves}
use Rattle.notation.specs.Grammar.{rbrace, sign, Tokens, of_slaves, Text}
use Rattle.outline.specs.Outline.{Within}
use Rattle.outline.specs.Laws.Slaves.{Along}
use Rattle.outline.proofs.+descent.Given as goal

abbrev pub decreases-bracketed : goal.decreases-bracketed
decreases-bracketed l = 8 * l.left + 4

abbrev pub decreases-chart : goal.decreases-chart
decreases-chart l = 8 * l.left + 6

abbrev pub decreases-hidden : goal.decreases-hidden
decreases-hidden l = 8 * l.left + 4

abbrev pub decreases-master : goal.decreases-master
decreases-master l = 8 * l.left + 4

abbrev pub decreases-pair : goal.decreases-pair
decreases-pair l = 8 * l.left + 7

abbrev pub decreases-part : goal.decreases-part
decreases-part l = 8 * l.left + 5

abbrev pub decreases-slaves : goal.decreases-slaves
decreases-slaves l = 8 * l.left + 8

-- the slaves so far are read in every text that has slaves there
abbrev pub invariant-slaves-loop-all : goal.invariant-slaves-loop-all
invariant-slaves-loop-all l =
    Within l.text l.at l.left l.all
    × ((ps : Slaves) (us : Tokens) → Text (of_slaves ps ++ (sign rbrace ∷ us)) (drop l.at l.text)
    → Along l.text l.mask l.left l.all.next l.all ps us)

abbrev pub decreases-slaves-loop-all : goal.decreases-slaves-loop-all
decreases-slaves-loop-all l = length l.text - l.all.next
