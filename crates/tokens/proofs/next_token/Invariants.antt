-- `next_token` meets its contract.
use mathlib.Core.Path.{◌≡◌}
use Prim.Native.Nat.{◌+◌}
use lib.ListN.{drop}
use Rattle.tokens.specs.Tokens.{blanks}
use Rattle.tokens.proofs.next_token.Given as goal

abbrev pub invariant-loop-i : goal.invariant-loop-i
invariant-loop-i l = l.i + blanks (drop l.i l.text) ≡ l.at + blanks (drop l.at l.text)
