-- `record::read_slave` meets its contract. A field at k of the record at `at` is read at `at + k`.
use Rattle.layout.specs.Record.{slave_of}
use Rattle.layout.proofs.Laws.{first-at, byte_at}
use Rattle.layout.proofs.record.read_slave.Goals as goal

pub returns : goal.returns
unfolding slave_of
returns c =
    let s = c.args.s.now in
    let at = c.args.at in
    λ i. record {
      chart = first-at s at i;
      state = byte_at s at 1 i;
      node = byte_at s at 2 i;
    }
