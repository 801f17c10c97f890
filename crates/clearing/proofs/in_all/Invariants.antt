-- `in_all` meets its contract. The loop's invariant: `sum` is the tally of the charts passed, and `start` is where the
-- next one's transitions begin.
use mathlib.Core.Path.{◌≡◌}
use Prim.Native.Nat.{◌≤◌}
use lib.ListN.{length}
use Rattle.layout.specs.Body.{start_of}
use Rattle.meaning.specs.Sums.{tally}
use Rattle.meaning.specs.File.{file_at}
use Rattle.clearing.specs.Clearing.{cleared_chart}
use Rattle.clearing.proofs.in_all.Given as goal

abbrev pub invariant-loop-c : goal.invariant-loop-c
invariant-loop-c l =
    (l.start ≡ start_of l.n l.body l.c)
    × (l.sum ≤ l.start)
    × (l.sum ≡ tally l.c (λ c. length (cleared_chart ((file_at l.n l.body).chart c)).transitions))
