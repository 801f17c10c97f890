-- `members` meets its contract: in every text that has the names of a set there, the names before i are read, and the
-- text goes on with the others at i.
use mathlib.Core.List.{◌∷◌, ◌++◌}
use Prim.Native.Nat.{ℕ, ◌-◌, ◌≤◌}
use lib.ListN.{length, drop}
use Rattle.notation.specs.Syntax.{OneOrMore}
use Rattle.notation.specs.Grammar.{letS, rbrace, sign, Tokens, of_names, Text}
use Rattle.fields.specs.Laws.Sets.{Going}
use Rattle.fields.proofs.members.Given as goal

abbrev pub invariant-loop-i : goal.invariant-loop-i
invariant-loop-i l =
    ((l.i ≤ length l.text) × (l.at ≤ l.i))
    × ((ks : OneOrMore ℕ) (ts : Tokens) → Text (of_names letS ks ++ (sign rbrace ∷ ts)) (drop l.at l.text)
    → Going l.text l.i l.so_far.mask l.so_far.bad ks ts)

abbrev pub decreases-loop-i : goal.decreases-loop-i
decreases-loop-i l = length l.text - l.i
