-- `sign` meets its contract.
use Rattle.printing.specs.Laws.Prints.{prints_byte}
use Rattle.printing.proofs.signs.sign.Goals as goal

pub returns : goal.returns
returns c = prints_byte c.byte.ensures
