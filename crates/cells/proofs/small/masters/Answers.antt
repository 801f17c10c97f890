-- `small::masters` meets its contract: the row is a part of the table.
use native.Mathlib.Omega.{arith}
use Rattle.cells.specs.Table.Laws.{row-part}
use Rattle.cells.proofs.small.masters.Goals as goal

pub returns : goal.returns
returns c = row-part c.args.small.now _ (omega (arith, c.requires))
