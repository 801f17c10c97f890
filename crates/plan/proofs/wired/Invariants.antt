-- `plan::wired` meets its contract: the nodes below j are wired, and the last one's part is the whole.
use mathlib.Core.Path.{◌≡◌}
use lib.ListN.{length}
use Rattle.meaning.specs.Numbers.{most_nodes}
use Rattle.meaning.specs.File.{file_at}
use Rattle.plan.specs.ByNode.{Sets, WiredTo}
use Rattle.plan.proofs.wired.Given as goal

abbrev pub invariant-loop-j : goal.invariant-loop-j
invariant-loop-j l =
    (length l.masks ≡ length l.initial.masks) × (length l.sets ≡ most_nodes) × Sets (file_at l.n l.body) l.j l.sets
    × WiredTo (file_at l.n l.body) l.j l.down l.masks
