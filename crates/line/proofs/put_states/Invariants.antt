-- `line::put_states` meets its contract. The loop's invariant: the states from i on are left, each behind a dot.
use mathlib.Core.List.{List, map}
use Prim.Native.Nat.{ℕ}
use lib.ListN.{drop}
use Rattle.line.specs.Line.{decimal, behind, dot}
use Rattle.line.proofs.Laws.{Left}
use Rattle.line.proofs.put_states.Given as goal

-- what is left at i
abbrev pub rest : List ℕ → ℕ → List ℕ
rest states i = behind dot (map decimal (drop i states))

abbrev pub invariant-loop-i : goal.invariant-loop-i
invariant-loop-i l = Left l.initial.out l.initial.next (rest l.states 1) l.out l.next (rest l.states l.i)
