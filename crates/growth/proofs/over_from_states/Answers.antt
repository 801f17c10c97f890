use mathlib.Core.Path.{sym}
use borrow.Author.Tests.{lt-ltb, le-ltb}
use Rattle.meaning.specs.Sums.Laws.{any_none, any-more, any_at, any-done}
use Rattle.growth.proofs.over_from_states.Goals as goal

pub loop-s-init : goal.loop-s-init
loop-s-init c = any_none _

pub returns-then-most-leaving : goal.returns-then-most-leaving
returns-then-most-leaving c =
    sym (any_at _ _ c.loop-s.s c.loop-s-test.true
    (lt-ltb _ _ (rw c.leaving.ensures.0 at c.if-most-leaving.true)))

pub loop-s-preserved : goal.loop-s-preserved
loop-s-preserved c = any-more _ _ c.loop-s.invariant
    (le-ltb _ _ (rw c.leaving.ensures.0 at c.if-most-leaving.false))

pub returns : goal.returns
returns c = any-done _ _ _ c.loop-s.auto.s-end c.loop-s-test.false c.loop-s.invariant

pub leaving-requires : goal.leaving-requires
leaving-requires c = (c.requires.0, c.requires.1)
