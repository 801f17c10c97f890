-- The tree is written as it is built. It ends since `left` falls from a chart to what stands inside it; in between the
-- order is master, slaves, slave, and pair, part, and hidden, and then chart.
use mathlib.Core.Path.{◌≡◌}
use Prim.Native.Nat.{◌+◌, ◌*◌, ◌-◌, ◌≤◌}
use lib.ListN.{length}
use Rattle.meaning.specs.File.{file_at}
use Rattle.notation.specs.Grammar.{comma}
use Rattle.printing.specs.Prints.{Prints}
use Rattle.printing.specs.Separated.{in_turn}
use Rattle.script.specs.Tree.{held_by, slave_text, slaves_in}
use Rattle.script.proofs.+descent.Given as goal

abbrev pub decreases-chart : goal.decreases-chart
decreases-chart l = 4 * l.left

abbrev pub decreases-hidden : goal.decreases-hidden
decreases-hidden l = 4 * l.left + 1

abbrev pub decreases-master : goal.decreases-master
decreases-master l = 4 * l.left + 3

abbrev pub decreases-pair : goal.decreases-pair
decreases-pair l = 4 * l.left + 2

abbrev pub decreases-part : goal.decreases-part
decreases-part l = 4 * l.left + 1

abbrev pub decreases-slave : goal.decreases-slave
decreases-slave l = 4 * l.left + 1

abbrev pub decreases-slaves : goal.decreases-slaves
decreases-slaves l = 4 * l.left + 2

-- the slaves below i are written
abbrev pub invariant-slaves-loop-i : goal.invariant-slaves-loop-i
invariant-slaves-loop-i l =
    (l.i ≤ l.count) × (length l.out ≡ length l.fn.out)
    × Prints l.fn.out l.list.first
    (in_turn comma (slave_text (file_at l.n l.body)) (slaves_in (held_by (file_at l.n l.body) l.left l.list.chart l.i)))
    l.out l.at

abbrev pub decreases-slaves-loop-i : goal.decreases-slaves-loop-i
decreases-slaves-loop-i l = l.count - l.i
