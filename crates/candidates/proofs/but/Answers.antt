-- `but` meets its contract. Assumes nothing.
use borrow.Author.Tests.{eq-eqb, ne_eqb}
use Rattle.meaning.specs.Meaning.{same}
use Rattle.candidates.proofs.but.Goals as goal

pub returns-then-e-c : goal.returns-then-e-c
unfolding same
returns-then-e-c c = rw (eq-eqb _ _ c.if-e-c.true)

pub returns : goal.returns
unfolding same
returns c = rw (ne_eqb _ _ c.if-e-c.false)
