-- `day::entries` is safe and ends: each line is passed.
use Rattle.std.proofs.Common.{◌-◌, ◌≤◌, length}
use Rattle.post.proofs.day.entries.Given as goal

abbrev pub invariant-loop-at : goal.invariant-loop-at
invariant-loop-at l = l.at ≤ length l.text

abbrev pub decreases-loop-at : goal.decreases-loop-at
decreases-loop-at l = length l.text - l.at
