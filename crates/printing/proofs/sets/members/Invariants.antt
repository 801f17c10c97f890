-- `members` meets its contract. The loop's invariant: the signals below s are written.
use mathlib.Core.Path.{◌≡◌}
use mathlib.Core.List.{List}
use Prim.Native.Nat.{ℕ}
use lib.ListN.{length}
use Rattle.signals.specs.Mask.{bit}
use Rattle.notation.specs.Grammar.{comma, letS, name₁}
use Rattle.spelling.specs.Typed.{if_so, from_all}
use Rattle.printing.specs.Prints.{Prints}
use Rattle.printing.specs.Separated.{in_turn}
use Rattle.printing.proofs.sets.members.Given as goal

abbrev pub below : ℕ → ℕ → List ℕ
below x s = from_all s (λ n. if_so (bit x n) n)

abbrev pub invariant-loop-s : goal.invariant-loop-s
invariant-loop-s l = (length l.out ≡ length l.initial.out) × Prints l.initial.out l.first (in_turn comma (name₁ letS) (below l.x l.s)) l.out l.at
