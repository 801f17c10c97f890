use mathlib.Core.Path.{sym}
use Rattle.meaning.specs.Sums.Laws.{any_none, any-more, any_at, any-done}
use Rattle.meaning.specs.Laws.Bools.{differs, agrees}
use Rattle.naming.proofs.names.bad_held.Goals as goal

pub returns-then-held-c-ne1 : goal.returns-then-held-c-ne1
returns-then-held-c-ne1 c =
    sym (any_at _ _ c.loop-c.c c.loop-c-test.true (differs _ _ c.if-held-c-ne1.true))

pub loop-c-preserved : goal.loop-c-preserved
loop-c-preserved c = any-more _ _ c.loop-c.invariant (agrees _ _ c.if-held-c-ne1.false)

pub returns : goal.returns
returns c = any-done _ _ _ c.loop-c.auto.c-end c.loop-c-test.false c.loop-c.invariant

pub loop-c-init : goal.loop-c-init
loop-c-init c = any_none _
