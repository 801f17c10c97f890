-- `record::read_transition` meets its contract. A field at k of the record at `at` is read at `at + k`.
use Rattle.layout.specs.Record.{transition_of}
use Rattle.layout.proofs.Laws.{first-at, byte_at, number_at}
use Rattle.layout.proofs.record.read_transition.Goals as goal

pub returns : goal.returns
unfolding transition_of
returns c =
    let s = c.args.s.now in
    let at = c.args.at in
    λ i. record {
      from = first-at s at i;
      to = byte_at s at 1 i;
      needed = number_at s at 8 4 c.le64.ensures i;
      barred = number_at s at 8 12 c.le64-2.ensures i;
      action = number_at s at 8 20 c.le64-3.ensures i;
    }
