-- `states_from` meets its contract: in every text that has the names of a list of states there, the names before i are
-- read and the commas between them counted, and the text goes on with the others at i.
use mathlib.Core.List.{◌∷◌, ◌++◌}
use Prim.Native.Nat.{ℕ, ◌-◌, ◌≤◌}
use lib.ListN.{length, drop}
use Rattle.notation.specs.Syntax.{OneOrMore}
use Rattle.notation.specs.Grammar.{letQ, rbrace, sign, Tokens, of_names, Text}
use Rattle.lists.specs.Laws.States.{Going}
use Rattle.lists.proofs.states_from.Given as goal

abbrev pub invariant-loop-i : goal.invariant-loop-i
invariant-loop-i l =
    ((l.i ≤ length l.text) × ((l.at ≤ l.i) × (l.commas ≤ l.i)))
    × ((ks : OneOrMore ℕ) (ts : Tokens) → Text (of_names letQ ks ++ (sign rbrace ∷ ts)) (drop l.at l.text)
    → Going l.text l.n.value l.i l.commas l.so_far.mask l.so_far.bad ks ts)

abbrev pub decreases-loop-i : goal.decreases-loop-i
decreases-loop-i l = length l.text - l.i
