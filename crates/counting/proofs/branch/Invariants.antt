-- `branch` meets its contract. The loop has the product over the charts passed, which is small.
use mathlib.Core.Path.{◌≡◌}
use Rattle.wiring.specs.Product.{times}
use Rattle.counting.specs.Counting.{factor_in}
use Rattle.counting.proofs.branch.Given as goal

abbrev pub invariant-loop-d : goal.invariant-loop-d
invariant-loop-d l = l.product ≡ times l.d (factor_in l.masters l.states l.counts l.c l.q l.u)
