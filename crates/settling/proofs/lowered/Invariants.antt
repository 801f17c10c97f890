-- `settling::lowered` meets its contract: what the first c charts of the half are offered, and 0 behind it.
use mathlib.Core.Path.{◌≡◌}
use mathlib.Core.List.{◌++◌}
use Prim.Native.Nat.{◌+◌, ◌-◌}
use lib.ListN.{replicate}
use Rattle.signals.specs.Mask.{◌∪◌, ◌∩◌}
use Rattle.meaning.specs.Calls.{made}
use Rattle.cells.specs.Table.{back_at}
use Rattle.cells.specs.Trail.{half, low_in}
use Rattle.settling.proofs.lowered.Given as goal

abbrev pub invariant-loop-c : goal.invariant-loop-c
invariant-loop-c l =
    l.row ≡ made l.c (λ d. low_in l.trail l.k (l.from + d) ∪ l.action ∩ back_at l.masks (l.from + d) l.k) ++ replicate (half - l.c) 0
