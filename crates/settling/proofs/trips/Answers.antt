use mathlib.Core.Path.{◌≡◌, refl, sym, ◌∙◌}
use mathlib.Core.Bool.{◌&&◌}
use native.Mathlib.Omega.{arith}
use Rattle.signals.specs.Guard.Laws.{guard_is}
use Rattle.signals.specs.Mask.{within, apart}
use Rattle.meaning.specs.Sums.Laws.{any_none, any-more, any_at, any-done}
use Rattle.cells.specs.Triggers.{trigger_needed, trigger_barred}
use Rattle.settling.specs.Calm.{trips}
use Rattle.settling.proofs.trips.Goals as goal
use Rattle.settling.proofs.trips.Goals.{After-holds}
use Rattle.settling.proofs.trips.Invariants.{one}

pub loop-v-init : goal.loop-v-init
loop-v-init c = any_none _

-- what was tested is trigger v
tested : (c : After-holds) →
    let a = c.args in
    (within (trigger_needed a.guards.now a.d c.loop-v.v) a.low
    && apart (trigger_barred a.guards.now a.d c.loop-v.v) a.high) ≡ c.holds.result
tested c =
    let barred = c.barred.ensures in
    let needed = c.needed.ensures in
    sym (rw (c.holds.ensures, needed, barred) refl)

pub returns-then-holds : goal.returns-then-holds
unfolding trips
returns-then-holds c =
    let a = c.args in
    sym (any_at a.n (one a.guards.now a.d a.low a.high) c.loop-v.v (omega arith)
    (guard_is _ _ _ _ ∙ tested (goal.at.returns-then-holds c).After-holds ∙ c.if-holds.true))

pub loop-v-preserved : goal.loop-v-preserved
loop-v-preserved c =
    let a = c.args in any-more c.loop-v.v (one a.guards.now a.d a.low a.high) c.loop-v.invariant
    (guard_is _ _ _ _ ∙ tested (goal.at.loop-v-preserved c).After-holds ∙ c.if-holds.false)

pub returns : goal.returns
unfolding trips
returns c =
    let a = c.args in
    any-done c.loop-v.v a.n (one a.guards.now a.d a.low a.high) (omega arith) (omega arith) c.loop-v.invariant
