-- `over_in_chart` meets its contract. The loop's invariant: no chart passed has over `most`.
use mathlib.Core.Path.{◌≡◌}
use mathlib.Core.Bool.{false}
use lib.Dec.{ltb}
use lib.ListN.{length}
use Rattle.meaning.specs.Sums.{any_up_to}
use Rattle.meaning.specs.File.{file_at}
use Rattle.meaning.specs.Rewriting.{rewritten_chart}
use Rattle.growth.proofs.over_in_chart.Given as goal

abbrev pub invariant-loop-c : goal.invariant-loop-c
invariant-loop-c l = any_up_to l.c (λ c. ltb l.most (length (rewritten_chart (file_at l.n l.body) c).transitions)) ≡ false
