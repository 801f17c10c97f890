-- `idle_count` meets its contract.
use borrow.Author.Tests.{eq-eqb, ne_eqb}
use Rattle.meaning.specs.Meaning.{same}
use Rattle.growth.specs.Growth.{idle_count}
use Rattle.growth.proofs.idle_count.Goals as goal

pub returns-then-inner-eq0 : goal.returns-then-inner-eq0
unfolding idle_count same
returns-then-inner-eq0 c = rw (eq-eqb _ _ c.if-inner-eq0.true)

pub returns-else-inner-eq0 : goal.returns-else-inner-eq0
unfolding idle_count same
returns-else-inner-eq0 c = rw (ne_eqb _ _ c.if-inner-eq0.false)
