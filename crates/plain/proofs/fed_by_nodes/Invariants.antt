-- `fed_by_nodes` meets its contract. The loop's invariant: the feedback sets of the nodes passed are joined.
use mathlib.Core.Path.{◌≡◌}
use mathlib.Core.Bool.{cond}
use Rattle.meaning.specs.Meaning.{∅, same}
use Rattle.meaning.specs.File.{file_at}
use Rattle.meaning.specs.Rewriting.{union_up_to}
use Rattle.plain.proofs.fed_by_nodes.Given as goal

abbrev pub invariant-loop-j : goal.invariant-loop-j
invariant-loop-j l = l.all ≡ union_up_to l.j (λ j. cond (same ((file_at l.n l.body).kind j) 1) ((file_at l.n l.body).x j) ∅)
