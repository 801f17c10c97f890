-- `dec` meets its contract: its bytes are typed one after another.
use Rattle.notation.specs.Grammar.{wordDec, sign_bytes}
use Rattle.printing.specs.Laws.Prints.{writes_append, prints_sign}
use Rattle.printing.proofs.signs.dec.Goals as goal

pub returns : goal.returns
unfolding sign_bytes
returns c =
    prints_sign wordDec (writes_append c.byte-e.ensures (writes_append c.byte-c.ensures c.byte.ensures))
