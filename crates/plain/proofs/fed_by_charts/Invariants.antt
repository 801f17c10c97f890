-- `fed_by_charts` meets its contract. The loop's invariant: the feedback sets of the charts passed are joined.
use mathlib.Core.Path.{◌≡◌}
use Rattle.meaning.specs.File.{file_at}
use Rattle.meaning.specs.Rewriting.{union_up_to}
use Rattle.plain.proofs.fed_by_charts.Given as goal

abbrev pub invariant-loop-c : goal.invariant-loop-c
invariant-loop-c l = l.all ≡ union_up_to l.c (λ c. ((file_at l.n l.body).chart c).feedback)
