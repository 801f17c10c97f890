-- `line::letter` meets its contract.
use mathlib.Core.Path.{refl}
use borrow.Author.Tests.{eq-eqb, ne_eqb}
use Rattle.meaning.specs.Meaning.{same}
use Rattle.line.specs.Line.{letter}
use Rattle.line.proofs.letter.Goals as goal

pub returns-then-mark-eq1 : goal.returns-then-mark-eq1
unfolding same letter
returns-then-mark-eq1 c = rw (eq-eqb _ _ c.if-mark-eq1.true) refl

pub returns-else-mark-eq1 : goal.returns-else-mark-eq1
unfolding same letter
returns-else-mark-eq1 c = rw (ne_eqb _ _ c.if-mark-eq1.false) refl
