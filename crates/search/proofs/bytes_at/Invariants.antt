-- `search::bytes_at` meets its contract: the bytes below c are read, and 0 stands behind them.
use mathlib.Core.Path.{◌≡◌}
use mathlib.Core.List.{◌++◌}
use Prim.Native.Nat.{◌+◌, ◌-◌}
use lib.ListN.{get_or, replicate}
use Rattle.meaning.specs.Numbers.{most_charts}
use Rattle.meaning.specs.Calls.{made}
use Rattle.search.proofs.bytes_at.Given as goal

abbrev pub invariant-loop-c : goal.invariant-loop-c
invariant-loop-c l = l.row ≡ made l.c (λ d. get_or l.best (l.at + d) 0) ++ replicate (most_charts - l.c) 0
