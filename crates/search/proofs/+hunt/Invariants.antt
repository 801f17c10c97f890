-- `search::hunt` ends since `left` falls at each call; its loop has been through the candidates below v, and may stop
-- where two permitted choices disagree, since nothing more can change. What it writes stands behind the beginning that
-- it was given, or is what was found.
use mathlib.Core.Path.{◌≡◌}
use Rattle.settling.specs.Trail.{trail_in, Keeps}
use Rattle.meaning.specs.Rewriting.{in_turn}
use Rattle.settling.specs.Hunt.{over, found_in, Held}
use Rattle.search.proofs.Hunts.{block}
use Rattle.search.proofs.+hunt.Given as goal

abbrev pub decreases-hunt : goal.decreases-hunt
decreases-hunt l = l.left

abbrev pub invariant-loop-v : goal.invariant-loop-v
invariant-loop-v l =
    Keeps l.k l.fn.trail l.fn.moves l.trail l.moves
    × (found_in l.best l.shown
    ≡ over (in_turn l.v (block l.masks l.small l.guards l.stays l.left l.k (trail_in l.fn.trail l.fn.moves l.k l.output)))
    (found_in l.fn.best l.fn.shown)) × Held l.best l.shown
