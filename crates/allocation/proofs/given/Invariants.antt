-- `given` meets its contract. The loop's invariant: each slave passed has its number, and the others are those that
-- `left` lacks.
use mathlib.Core.Path.{◌≡◌}
use mathlib.Core.List.{List}
use Prim.Native.Nat.{ℕ, ◌+◌, ◌≤◌, ◌<◌}
use lib.ListN.{length, get_or, drop}
use Rattle.signals.specs.Mask.{single}
use Rattle.meaning.specs.Numbers.{most_charts, most_signals}
use Rattle.meaning.specs.Rewriting.{lacking}
use Rattle.allocation.proofs.given.Given as goal

-- the first i of the numbers that `used` lacks are given, and `left` lacks the others
pub record Gives (used i left : ℕ) (l : List ℕ) : Type 0 where
  pub long : length l ≡ most_charts
  pub most : i ≤ length (lacking used most_signals)
  pub rest : drop i (lacking used most_signals) ≡ lacking left most_signals
  pub given : (k : ℕ) → k < i → get_or l k 0 ≡ single (get_or (lacking used most_signals) k (most_signals + k))

abbrev pub invariant-loop-i : goal.invariant-loop-i
invariant-loop-i l = Gives l.used l.i l.left l.sets
