-- `settling::asks` meets its contract: what the charts below d ask is joined.
use mathlib.Core.Path.{◌≡◌}
use Rattle.meaning.specs.Rewriting.{union_up_to}
use Rattle.settling.specs.Asks.{wants_in, bans_in}
use Rattle.settling.proofs.asks.Given as goal

abbrev pub invariant-loop-d : goal.invariant-loop-d
invariant-loop-d l = (l.needed ≡ union_up_to l.d (wants_in l.masks l.trail l.k)) × (l.barred ≡ union_up_to l.d (bans_in l.masks l.trail l.k))
