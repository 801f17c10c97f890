-- `interface::actions` meets its contract. The loop's invariant: the actions passed are joined.
use mathlib.Core.Path.{◌≡◌}
use Rattle.layout.specs.Body.{from, transition_at}
use Rattle.meaning.specs.Meaning.{actions}
use Rattle.queries.proofs.interface.actions.Given as goal

abbrev pub invariant-loop-k : goal.invariant-loop-k
invariant-loop-k l = l.all ≡ actions (from (transition_at l.n l.body) l.start l.k)
