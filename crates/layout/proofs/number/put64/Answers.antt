-- `number::put64` meets its contract. The bytes of a number are those of its two halves: `put_twice`.
use Rattle.layout.specs.Le.Laws.{put_twice}
use Rattle.layout.proofs.number.put64.Goals as goal

pub returns : goal.returns
returns c =
    let a = c.args in
    rw (c.put32-2.ensures, c.put32.ensures)
    (put_twice 4 a.s.now a.at a.x)
