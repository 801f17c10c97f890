-- `of_text` meets its contract: in every text that spells a chart, the charts before a place are found and the others
-- stand behind it.
use Prim.Native.Nat.{◌-◌, ◌≤◌}
use lib.ListN.{length}
use Rattle.notation.specs.Syntax.{Chart}
use Rattle.notation.specs.Grammar.{of_chart, Text}
use Rattle.roster.specs.Walk.{Walked}
use Rattle.roster.proofs.of_text.Given as goal

abbrev pub invariant-loop-r : goal.invariant-loop-r
invariant-loop-r l = (l.r.next ≤ length l.text) × ((t : Chart) → Text (of_chart t) l.text → Walked l.text l.r t)

abbrev pub decreases-loop-r : goal.decreases-loop-r
decreases-loop-r l = length l.text - l.r.next
