-- `number::put32` meets its contract. The bytes of a number are those of its two halves: `put_twice`.
use Rattle.layout.specs.Le.Laws.{put_twice}
use Rattle.layout.proofs.number.put32.Goals as goal

pub returns : goal.returns
returns c =
    let a = c.args in
    rw (c.put16-2.ensures, c.put16.ensures)
    (put_twice 2 a.s.now a.at a.x)
