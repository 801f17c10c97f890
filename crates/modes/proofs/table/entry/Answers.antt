-- `table::entry` meets its contract: the table is that of the definitions.
use mathlib.Core.Path.{refl}
use Rattle.scan.specs.Table.{numbers}
use Rattle.modes.proofs.table.entry.Goals as goal

pub returns : goal.returns
unfolding numbers
returns c = refl
