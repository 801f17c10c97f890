-- Row k begins before the end of k rows that are as long as can be.
use Rattle.std.proofs.Common.{◌*◌, ◌≤◌}
use Rattle.post.proofs.tell.lines.Given as goal

abbrev pub invariant-loop-k : goal.invariant-loop-k
invariant-loop-k g l = l.at ≤ 30 * l.k
