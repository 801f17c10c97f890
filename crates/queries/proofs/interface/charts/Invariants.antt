-- `interface::charts` meets its contract. The loop's invariant: the charts passed have their interfaces, and `start` is
-- where the next one's transitions begin.
use mathlib.Core.Path.{◌≡◌}
use lib.ListN.{length}
use Rattle.layout.specs.Body.{start_of}
use Rattle.meaning.specs.Numbers.{most_charts}
use Rattle.meaning.specs.File.{file_at}
use Rattle.queries.specs.Faces.{OwnOf}
use Rattle.queries.proofs.interface.charts.Given as goal

abbrev pub invariant-loop-c : goal.invariant-loop-c
invariant-loop-c l =
    (length l.input ≡ most_charts) × (length l.output ≡ most_charts) × (l.start ≡ start_of l.n l.body l.c)
    × OwnOf (file_at l.n l.body) l.input l.output l.c
