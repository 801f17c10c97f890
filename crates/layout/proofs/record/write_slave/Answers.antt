-- `record::write_slave` meets its contract: each byte is written where the one before it ends.
use native.Mathlib.Omega.{arith}
use lib.ListN.{length-set}
use Rattle.layout.specs.Record.{slave_bytes}
use Rattle.layout.proofs.Laws.{byte, first}
use Rattle.layout.proofs.record.write_slave.Goals as goal

pub returns : goal.returns
unfolding slave_bytes
returns c =
    let a = c.args in
    let r = a.r in
    (byte (byte (byte (first a.s.now a.at r.chart) r.state) r.node) 0).is

pub bounds-s-at-2 : goal.bounds-s-at-2
bounds-s-at-2 c = simp length-set (omega arith)

pub bounds-s-at-3 : goal.bounds-s-at-3
bounds-s-at-3 c = simp length-set (omega arith)

pub bounds-s-at-4 : goal.bounds-s-at-4
bounds-s-at-4 c = simp length-set (omega arith)

pub shape_of-s : goal.shape_of-s
shape_of-s c = simp length-set
