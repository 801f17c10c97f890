-- `minus` meets its contract.
use mathlib.Core.Path.{refl}
use Rattle.notation.specs.Grammar.{minus, sign_bytes, of_literal}
use Rattle.printing.specs.Laws.Prints.{prints_append}
use Rattle.printing.proofs.guards.minus.Goals as goal

pub returns-then-barred : goal.returns-then-barred
unfolding sign_bytes of_literal
returns-then-barred c s n k p = rw c.if-barred.true (prints_append (c.sign.ensures minus refl) p)

pub returns : goal.returns
unfolding of_literal
returns c s n k p = rw c.if-barred.false p
