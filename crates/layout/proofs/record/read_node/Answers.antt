-- `record::read_node` meets its contract. A field at k of the record at `at` is read at `at + k`.
use Rattle.layout.specs.Record.{node_of}
use Rattle.layout.proofs.Laws.{first-at, byte_at, number_at}
use Rattle.layout.proofs.record.read_node.Goals as goal

pub returns : goal.returns
unfolding node_of
returns c =
    let s = c.args.s.now in
    let at = c.args.at in
    λ i. record {
      kind = first-at s at i;
      a = byte_at s at 1 i;
      b = byte_at s at 2 i;
      x = number_at s at 8 4 c.le64.ensures i;
      y = number_at s at 8 12 c.le64-2.ensures i;
    }
