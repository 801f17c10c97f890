-- `surely` meets its contract. Assumes nothing.
use borrow.Author.Tests.{eq-eqb, ne_eqb}
use Rattle.meaning.specs.Meaning.{same}
use Rattle.candidates.proofs.surely.Goals as goal

pub returns-then-n : goal.returns-then-n
unfolding same
returns-then-n c = rw (eq-eqb _ _ c.if-n.true)

pub returns : goal.returns
unfolding same
returns c = rw (ne_eqb _ _ c.if-n.false)
