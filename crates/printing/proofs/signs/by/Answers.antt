-- `by` meets its contract: its bytes are typed one after another.
use Rattle.notation.specs.Grammar.{wordBy, sign_bytes}
use Rattle.printing.specs.Laws.Prints.{writes_append, prints_sign}
use Rattle.printing.proofs.signs.by.Goals as goal

pub returns : goal.returns
unfolding sign_bytes
returns c = prints_sign wordBy (writes_append c.byte-y.ensures c.byte.ensures)
