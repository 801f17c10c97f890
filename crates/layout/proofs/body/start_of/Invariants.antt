-- `body::start_of` meets its contract. The loop's invariant: the transitions of the charts passed are counted, and each
-- chart has less than 256.
use mathlib.Core.Path.{◌≡◌}
use Prim.Native.Nat.{◌*◌, ◌≤◌}
use Rattle.layout.specs.Body.{start_of}
use Rattle.layout.proofs.body.start_of.Given as goal

abbrev pub invariant-loop-k : goal.invariant-loop-k
invariant-loop-k l = (l.start ≡ start_of l.n l.body l.k) × (l.start ≤ 255 * l.k)
