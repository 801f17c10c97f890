-- `name` meets its contract.
use Rattle.printing.specs.Laws.Prints.{writes_append, prints_name}
use Rattle.printing.proofs.signs.name.Goals as goal

pub returns : goal.returns
returns c = prints_name (writes_append c.byte-next.ensures c.number.ensures)
