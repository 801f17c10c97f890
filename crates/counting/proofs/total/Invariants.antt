-- `total` meets its contract. The loop has the product over the charts passed, which is small.
use mathlib.Core.Path.{◌≡◌}
use Rattle.wiring.specs.Product.{times}
use Rattle.counting.specs.Counting.{outside_in}
use Rattle.counting.proofs.total.Given as goal

abbrev pub invariant-loop-d : goal.invariant-loop-d
invariant-loop-d l = l.product ≡ times l.d (outside_in l.masters l.counts)
