-- `record_of` meets its contract.
use Rattle.roster.specs.Records.{record_of}
use Rattle.roster.proofs.records.record_of.Goals as goal

pub returns : goal.returns
unfolding record_of
returns c =
    let t = c.args.t in
    let a = c.byte.ensures in
    let b = c.byte-2.ensures in
    λ z. record { from = a z; to = b z; needed = t.needed; barred = t.barred; action = t.action }
