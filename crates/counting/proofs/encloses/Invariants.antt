-- `encloses` meets its contract. The loop's invariant: no chart passed stands in a slave of this one.
use mathlib.Core.Path.{◌≡◌}
use mathlib.Core.Bool.{false}
use Rattle.counting.specs.Counting.{encloses_in}
use Rattle.counting.proofs.encloses.Given as goal

abbrev pub invariant-loop-d : goal.invariant-loop-d
invariant-loop-d l = encloses_in l.d l.masters l.c ≡ false
