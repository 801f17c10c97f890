-- `in_all` meets its contract. The loop's invariant: `sum` is the tally of the charts passed.
use mathlib.Core.Path.{◌≡◌}
use Prim.Native.Nat.{◌*◌, ◌≤◌}
use lib.ListN.{length}
use Rattle.meaning.specs.Sums.{tally}
use Rattle.meaning.specs.File.{file_at}
use Rattle.meaning.specs.Rewriting.{rewritten_chart}
use Rattle.growth.proofs.in_all.Given as goal

abbrev pub invariant-loop-c : goal.invariant-loop-c
invariant-loop-c l = (l.sum ≤ 510 * l.c) × (l.sum ≡ tally l.c (λ c. length (rewritten_chart (file_at l.n l.body) c).transitions))
