-- `digit` meets its contract.
use Rattle.notation.specs.Laws.Decimal.{decimal-one}
use Rattle.printing.proofs.signs.digit.Goals as goal

pub returns : goal.returns
returns c = rw (decimal-one c.args.d c.requires) c.byte.ensures
