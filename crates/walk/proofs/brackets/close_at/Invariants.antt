-- `close_at` meets its contract: from i on, with the brackets that are open there, the same bracket is looked for.
use mathlib.Core.Path.{◌≡◌}
use Prim.Native.Nat.{◌≤◌}
use lib.ListN.{drop}
use Rattle.walk.specs.Brackets.{closing}
use Rattle.walk.proofs.brackets.close_at.Given as goal

abbrev pub invariant-loop-i : goal.invariant-loop-i
invariant-loop-i l = (l.level ≤ l.i) × (closing l.level (drop l.i l.text) ≡ closing 0 (drop l.at l.text))
