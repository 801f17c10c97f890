-- `leaving` meets its contract. The loop's invariant: of the transitions passed those from the state are counted.
use mathlib.Core.Path.{◌≡◌}
use Prim.Native.Nat.{◌≤◌}
use Rattle.layout.specs.Body.{from, transition_at}
use Rattle.meaning.specs.Rewriting.{leaving_in}
use Rattle.growth.proofs.leaving.Given as goal

abbrev pub invariant-loop-k : goal.invariant-loop-k
invariant-loop-k l = (l.times ≤ l.k) × (l.times ≡ leaving_in (from (transition_at l.n l.body) l.start l.k) l.s)
