-- `interface::guards` meets its contract. The loop's invariant: the guards passed are joined.
use mathlib.Core.Path.{◌≡◌}
use Rattle.signals.specs.Mask.{◌∪◌}
use Rattle.layout.specs.Body.{from, transition_at}
use Rattle.meaning.specs.Meaning.{guards}
use Rattle.queries.proofs.interface.guards.Given as goal

abbrev pub invariant-loop-k : goal.invariant-loop-k
invariant-loop-k l = l.all ≡ guards (from (transition_at l.n l.body) l.start l.k) ∪ l.extra
