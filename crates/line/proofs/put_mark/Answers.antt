-- `line::put_mark` meets its contract.
use Rattle.layout.specs.Put.Laws.{put-append}
use Rattle.line.proofs.put_mark.Goals as goal

pub returns : goal.returns
returns c =
    let mark = rw c.letter.ensures at
    c.put_byte-end.ensures in
    put-append
    c.put_byte-next.ensures
    (put-append mark c.put_byte.ensures)
