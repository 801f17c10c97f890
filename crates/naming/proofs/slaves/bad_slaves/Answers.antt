use mathlib.Core.Path.{sym, ◌∙◌}
use Rattle.meaning.specs.Sums.Laws.{any_none, any-more, any_at, any-done}
use Rattle.meaning.specs.File.{file_at}
use Rattle.meaning.specs.Check.{slaves?}
use Rattle.naming.proofs.slaves.bad_slaves.Goals as goal

pub loop-i-init : goal.loop-i-init
loop-i-init c = any_none _

pub returns-then-bad_slave : goal.returns-then-bad_slave
unfolding slaves? file_at
returns-then-bad_slave c =
    sym (any_at _ _ c.loop-i.i c.loop-i-test.true
    (sym c.bad_slave.ensures ∙ c.if-bad_slave.true))

pub loop-i-preserved : goal.loop-i-preserved
loop-i-preserved c = any-more _ _ c.loop-i.invariant (sym c.bad_slave.ensures ∙ c.if-bad_slave.false)

pub returns : goal.returns
unfolding slaves? file_at
returns c = any-done _ _ _ c.loop-i.auto.i-end c.loop-i-test.false c.loop-i.invariant
