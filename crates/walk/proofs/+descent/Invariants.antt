-- The walk ends since `left` falls from a part to what stands inside it; in between the order is slaves, of_state, pair,
-- chart, part.
use Rattle.std.proofs.Common.{◌≤◌, ◌+◌, ◌-◌, ◌*◌, List, length}
use Rattle.notation.specs.Grammar.{Tokens}
use Rattle.reading.specs.Numbers.{named_states}
use Rattle.forms.specs.Laws.Slaves.{Pair}
use Rattle.walk.specs.Walk.{sheet}
use Rattle.walk.specs.Laws.Slaves.{Ready, Along, Below}
use Rattle.walk.proofs.+descent.Given as goal

abbrev pub decreases-bracketed : goal.decreases-bracketed
decreases-bracketed l = 8 * l.left + 5

abbrev pub decreases-chart : goal.decreases-chart
decreases-chart l = 8 * l.left + 1

abbrev pub decreases-hidden : goal.decreases-hidden
decreases-hidden l = 8 * l.left + 5

abbrev pub decreases-master : goal.decreases-master
decreases-master l = 8 * l.left + 5

abbrev pub decreases-of_state : goal.decreases-of_state
decreases-of_state l = 8 * l.left + 3

abbrev pub decreases-pair : goal.decreases-pair
decreases-pair l = 8 * l.left + 2

abbrev pub decreases-part : goal.decreases-part
decreases-part l = 8 * l.left

abbrev pub decreases-slaves : goal.decreases-slaves
decreases-slaves l = 8 * l.left + 4

-- in every text that has slaves there, those before the cursor are laid down
abbrev pub invariant-of_state-loop-c : goal.invariant-of_state-loop-c
invariant-of_state-loop-c l =
    let begin = sheet l.initial.c l.initial.out l.initial.list in
    (l.c.place ≤ length l.text)
    × ((ps : List Pair) (ts : Tokens) → Ready l.text l.name l.state l.left l.initial.c.place begin ps ts
    → Along l.text l.name l.state l.left l.c.place begin (sheet l.c l.out l.list) ps ts)

abbrev pub decreases-of_state-loop-c : goal.decreases-of_state-loop-c
decreases-of_state-loop-c l = length l.text - l.c.place

-- the slaves of the states below this one are laid down
abbrev pub invariant-slaves-loop-state : goal.invariant-slaves-loop-state
invariant-slaves-loop-state l =
    (l.state ≤ named_states)
    × Below l.text l.name l.left l.from.place l.state (sheet l.from l.initial.out l.initial.list) (sheet l.c l.out l.list)

abbrev pub decreases-slaves-loop-state : goal.decreases-slaves-loop-state
decreases-slaves-loop-state l = named_states - l.state
