-- `over_from_states` meets its contract. The loop's invariant: no state passed has over `most` out.
use mathlib.Core.Path.{◌≡◌}
use mathlib.Core.Bool.{false}
use Prim.Native.Nat.{◌+◌}
use lib.Dec.{ltb}
use Rattle.layout.specs.Body.{from, transition_at}
use Rattle.meaning.specs.Sums.{any_up_to}
use Rattle.meaning.specs.Rewriting.{leaving_in}
use Rattle.growth.proofs.over_from_states.Given as goal

abbrev pub invariant-loop-s : goal.invariant-loop-s
invariant-loop-s l = any_up_to l.s (λ s. ltb l.most (leaving_in (from (transition_at l.n l.body) l.start l.count) s + l.idle)) ≡ false
