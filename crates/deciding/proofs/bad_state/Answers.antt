use mathlib.Core.Path.{sym, ap}
use mathlib.Core.Bool.{not}
use native.Mathlib.Omega.{arith}
use borrow.Author.Tests.{lt-ltb, le-ltb}
use Rattle.meaning.specs.Sums.Laws.{any_none, any-more, any_at, any-done}
use Rattle.deciding.proofs.bad_state.Goals as goal

pub loop-k-init : goal.loop-k-init
loop-k-init c = any_none _

pub returns-then-config-k : goal.returns-then-config-k
returns-then-config-k c =
    sym (any_at _ _ c.loop-k.k c.loop-k-test.true (ap not (le-ltb _ _ c.if-config-k.true)))

pub loop-k-preserved : goal.loop-k-preserved
loop-k-preserved c =
    any-more _ _ c.loop-k.invariant (ap not (lt-ltb _ _ c.if-config-k.false))

pub returns : goal.returns
returns c = any-done _ _ _ c.loop-k.auto.k-end c.loop-k-test.false c.loop-k.invariant

pub bounds-config-k : goal.bounds-config-k
bounds-config-k c = omega arith

pub bounds-states-k : goal.bounds-states-k
bounds-states-k c = omega arith
