-- `record::read_head` meets its contract. A field at k of the record at `at` is read at `at + k`.
use Rattle.layout.specs.Record.{head_of}
use Rattle.layout.proofs.Laws.{first-at, byte_at, number_at}
use Rattle.layout.proofs.record.read_head.Goals as goal

pub returns : goal.returns
unfolding head_of
returns c =
    let s = c.args.s.now in
    let at = c.args.at in
    λ i. record {
      states = first-at s at i;
      initial = byte_at s at 1 i;
      transitions = byte_at s at 2 i;
      feedback = number_at s at 8 8 c.le64.ensures i;
      extra = number_at s at 8 16 c.le64-2.ensures i;
    }
