use Prim.Native.Nat.{ℕ, ◌≤◌, ◌<◌}
use mathlib.Core.Path.{◌≡◌, sym, ap}
use mathlib.Core.Bool.{true, false, not}
use native.Mathlib.Omega.{arith}
use borrow.Author.Tests.{lt-ltb, le-ltb}
use Rattle.layout.specs.declared.record.Head.{Head}
use Rattle.meaning.specs.Sums.Laws.{any_none, any-more, any_at, any-done}
use Rattle.meaning.specs.Check.{not_below}
use Rattle.stepping.proofs.step.bad_states.Goals as goal

-- a state against the head that was read
bad_here : (s : ℕ) (h k : Head) → h ≡ k → h.states ≤ s → not_below s k.states ≡ true
bad_here s h k e l = ap not (le-ltb s k.states (rw (ap (λ (x : Head). x.states) e) at l))

good_here : (s : ℕ) (h k : Head) → h ≡ k → s < h.states → not_below s k.states ≡ false
good_here s h k e l = ap not (lt-ltb s k.states (rw (ap (λ (x : Head). x.states) e) at l))

pub loop-c-init : goal.loop-c-init
loop-c-init c = any_none _

pub returns-then-config-c : goal.returns-then-config-c
returns-then-config-c c =
    sym (any_at _ _ c.loop-c.c c.loop-c-test.true
    (bad_here _ c.head_at.result _ c.head_at.ensures c.if-config-c.true))

pub loop-c-preserved : goal.loop-c-preserved
loop-c-preserved c = any-more _ _ c.loop-c.invariant
    (good_here _ c.head_at.result _ c.head_at.ensures c.if-config-c.false)

pub returns : goal.returns
returns c = any-done _ _ _ c.loop-c.auto.c-end c.loop-c-test.false c.loop-c.invariant

pub bounds-config-c : goal.bounds-config-c
bounds-config-c c = omega arith
