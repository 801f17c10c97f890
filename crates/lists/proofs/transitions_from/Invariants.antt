-- `transitions_from` meets its contract: in every text that has a list of transitions there, those before i are read
-- and the commas between them counted, and the text goes on with the others at i.
use mathlib.Core.List.{◌∷◌, ◌++◌}
use Prim.Native.Nat.{◌-◌, ◌≤◌}
use lib.ListN.{length, drop}
use Rattle.notation.specs.Syntax.{OneOrMore, Transition}
use Rattle.notation.specs.Grammar.{rbrace, sign, Tokens, of_transition_list, Text}
use Rattle.lists.specs.Laws.Transitions.{Along}
use Rattle.lists.proofs.transitions_from.Given as goal

abbrev pub invariant-loop-i : goal.invariant-loop-i
invariant-loop-i l =
    ((l.i ≤ length l.text) × ((l.at ≤ l.i) × (l.commas ≤ l.i)))
    × ((ts : OneOrMore Transition) (us : Tokens) → Text (of_transition_list ts ++ (sign rbrace ∷ us)) (drop l.at l.text)
    → Along l.text l.mask l.i l.commas l.bad ts us)

abbrev pub decreases-loop-i : goal.decreases-loop-i
decreases-loop-i l = length l.text - l.i
