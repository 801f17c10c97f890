-- `apart` meets its contract: the place tells whether something stands before it.
use Rattle.printing.specs.Laws.Separated.{apart_none, apart_sign}
use Rattle.printing.proofs.sets.apart.Goals as goal

pub returns-then-at-first : goal.returns-then-at-first
returns-then-at-first c = apart_none c.if-at-first.true

pub returns : goal.returns
returns c = apart_sign c.if-at-first.false c.sign.ensures
