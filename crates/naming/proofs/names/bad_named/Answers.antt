use mathlib.Core.Path.{sym}
use Rattle.meaning.specs.Sums.Laws.{any_none, any-more, any_at, any-done}
use Rattle.meaning.specs.Laws.Bools.{differs, agrees}
use Rattle.naming.proofs.names.bad_named.Goals as goal

pub returns-then-named-j : goal.returns-then-named-j
returns-then-named-j c =
    sym (any_at _ _ c.loop-j.j c.loop-j-test.true
    (rw (← c.due.ensures) (differs _ _ c.if-named-j.true)))

pub loop-j-preserved : goal.loop-j-preserved
loop-j-preserved c = any-more _ _ c.loop-j.invariant
    (rw (← c.due.ensures) (agrees _ _ c.if-named-j.false))

pub returns : goal.returns
returns c = any-done _ _ _ c.loop-j.auto.j-end c.loop-j-test.false c.loop-j.invariant

pub loop-j-init : goal.loop-j-init
loop-j-init c = any_none _
