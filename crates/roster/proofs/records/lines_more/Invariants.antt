-- `lines_more` meets its contract: in every text that has transitions there, those before i are written, and the text
-- goes on with the others at i.
use mathlib.Core.Path.{◌≡◌}
use mathlib.Core.List.{List, ◌∷◌, ◌++◌}
use Prim.Native.Nat.{◌-◌, ◌≤◌}
use lib.ListN.{length, drop}
use Rattle.layout.specs.Put.{Room}
use Rattle.meaning.specs.Each.{Each}
use Rattle.notation.specs.Syntax.{Transition}
use Rattle.notation.specs.Grammar.{rbrace, sign, Tokens, Text}
use Rattle.reading.specs.Meant.{all}
use Rattle.lists.specs.Lists.{more_of}
use Rattle.roster.specs.Records.{line_of, InRange}
use Rattle.roster.specs.Laws.Lines.{Going}
use Rattle.roster.proofs.records.lines_more.Given as goal

abbrev pub invariant-loop-i : goal.invariant-loop-i
invariant-loop-i l =
    (l.i ≤ length l.text) × ((length l.out ≡ length l.initial.out)
    × ((ts : List Transition) (us : Tokens) → Text (more_of ts ++ (sign rbrace ∷ us)) (drop l.at l.text)
    → Each InRange ts → Room l.initial.out l.to (all line_of ts) → Going l.text l.i ts us l.initial.out l.to l.out l.p))

abbrev pub decreases-loop-i : goal.decreases-loop-i
decreases-loop-i l = length l.text - l.i
