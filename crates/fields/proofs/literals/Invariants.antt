-- `literals` meets its contract: in every text that has the literals of a guard there, those before i are read, and the
-- text goes on with the others at i.
use mathlib.Core.List.{◌∷◌, ◌++◌}
use Prim.Native.Nat.{◌-◌, ◌≤◌}
use lib.ListN.{length, drop}
use Rattle.notation.specs.Syntax.{OneOrMore, Literal}
use Rattle.notation.specs.Grammar.{slash, sign, Tokens, of_literals, Text}
use Rattle.fields.specs.Laws.Guards.{Through}
use Rattle.fields.proofs.literals.Given as goal

abbrev pub invariant-loop-i : goal.invariant-loop-i
invariant-loop-i l =
    ((l.i ≤ length l.text) × (l.at ≤ l.i))
    × ((ls : OneOrMore Literal) (ts : Tokens) → Text (of_literals ls ++ (sign slash ∷ ts)) (drop l.at l.text)
    → Through l.text l.i l.g ls ts)

abbrev pub decreases-loop-i : goal.decreases-loop-i
decreases-loop-i l = length l.text - l.i
