-- `fill` meets its contract. The loop has the entries from k on, and where chart k's transitions start.
use mathlib.Core.Path.{◌≡◌}
use lib.ListN.{length}
use Rattle.layout.specs.Body.{start_of}
use Rattle.counting.specs.Counting.{CountsOn, LeavesTo}
use Rattle.counting.proofs.fill.Given as goal

abbrev pub invariant-loop-k : goal.invariant-loop-k
invariant-loop-k l =
    (length l.counts ≡ length l.initial.counts) × (l.start ≡ start_of l.n l.body l.k)
    × CountsOn l.n l.body l.config l.k l.counts × LeavesTo l.n l.body l.config l.k l.counts
