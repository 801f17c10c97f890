-- `line::put_state` meets its contract.
use Rattle.layout.specs.Put.Laws.{put-append}
use Rattle.line.proofs.put_state.Goals as goal

pub returns : goal.returns
returns c =
    put-append c.put_byte-next.ensures
    c.put_decimal.ensures
