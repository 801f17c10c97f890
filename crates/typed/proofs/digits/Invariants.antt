-- `typed::digits` meets its contract. The loop's invariant: reading on from x at i reads the whole word.
use mathlib.Core.Path.{◌≡◌}
use lib.ListN.{drop}
use Rattle.typed.specs.Typed.{digits_on}
use Rattle.typed.proofs.digits.Given as goal

abbrev pub invariant-loop-i : goal.invariant-loop-i
invariant-loop-i l = digits_on l.base l.most 0 l.word ≡ digits_on l.base l.most l.x (drop l.i l.word)
