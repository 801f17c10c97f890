-- `number` meets its contract.
use mathlib.Core.Path.{◌≡◌}
use Prim.Native.Nat.{◌≤◌}
use lib.ListN.{drop}
use Rattle.tokens.specs.Tokens.{digits, number_on}
use Rattle.tokens.proofs.number.Given as goal

abbrev pub invariant-loop-i : goal.invariant-loop-i
invariant-loop-i l =
    (l.x ≤ 1000) × (number_on l.x (drop l.i l.text) ≡ number_on 0 (drop l.at l.text))
    × (drop (digits (drop l.i l.text)) (drop l.i l.text) ≡ drop (digits (drop l.at l.text)) (drop l.at l.text))
