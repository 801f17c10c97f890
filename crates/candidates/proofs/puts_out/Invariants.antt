-- `puts_out` meets its contract. The loop joins the actions of the first v candidates. Assumes nothing.
use mathlib.Core.Path.{◌≡◌}
use Rattle.meaning.specs.Rewriting.{union_up_to}
use Rattle.cells.specs.Table.{action_at}
use Rattle.candidates.proofs.puts_out.Given as goal

abbrev pub invariant-loop-v : goal.invariant-loop-v
invariant-loop-v l = l.u ≡ union_up_to l.v (action_at l.masks l.c)
