-- `of_list` meets its contract. The loop's invariant: the three numbers are what is left of the transitions passed.
use mathlib.Core.Path.{◌≡◌}
use Rattle.layout.specs.Body.{transition_at}
use Rattle.clearing.proofs.LeftLaws.{left_to}
use Rattle.clearing.proofs.of_list.Given as goal

abbrev pub invariant-loop-k : goal.invariant-loop-k
invariant-loop-k l =
    (l.kept ≡ (left_to l.fed (transition_at l.n l.body) l.start l.k).count)
    × (l.was ≡ (left_to l.fed (transition_at l.n l.body) l.start l.k).was)
    × (l.still ≡ (left_to l.fed (transition_at l.n l.body) l.start l.k).still)
