-- `typed::end` meets its contract. The loop's invariant: no separator stands from `at` up to i, so those characters
-- belong to the part.
use mathlib.Core.Path.{◌≡◌}
use Prim.Native.Nat.{◌-◌}
use lib.ListN.{take, drop}
use Rattle.typed.specs.Typed.{split}
use Rattle.typed.specs.Typed.Laws.{before}
use Rattle.typed.proofs.end.Given as goal

abbrev pub invariant-loop-i : goal.invariant-loop-i
invariant-loop-i l =
    split l.separator (drop l.at l.word) ≡ before (take (l.i - l.at) (drop l.at l.word)) (split l.separator (drop l.i l.word))
