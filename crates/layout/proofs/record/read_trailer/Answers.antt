-- `record::read_trailer` meets its contract. A field at k of the record at `at` is read at `at + k`.
use Rattle.layout.specs.Record.{trailer_of}
use Rattle.layout.proofs.Laws.{byte_at, number_at}
use Rattle.layout.proofs.record.read_trailer.Goals as goal

pub returns : goal.returns
unfolding trailer_of
returns c =
    let s = c.args.s.now in
    let at = c.args.at in
    λ i. record {
      distance = c.le32.ensures i;
      charts = byte_at s at 4 i;
      slaves = byte_at s at 5 i;
      nodes = byte_at s at 6 i;
      edition = byte_at s at 7 i;
      transitions = number_at s at 2 8 c.le16.ensures i;
    }
