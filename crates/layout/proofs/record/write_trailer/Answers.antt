-- `record::write_trailer` meets its contract. Each part is written where the one before it ends.
use mathlib.Core.Path.{ap}
use native.Mathlib.Omega.{arith}
use lib.ListN.{length, length-set}
use lib.Seq.{length-sets}
use Rattle.layout.specs.Le.{bytes}
use Rattle.layout.specs.Record.{trailer_bytes}
use Rattle.layout.proofs.Laws.{part, byte, start}
use Rattle.layout.proofs.record.write_trailer.Goals as goal

pub returns : goal.returns
unfolding bytes trailer_bytes
returns c =
    let a =
    c.args in
    let r = a.r in
    let distance = start a.s.now a.at (bytes 4 r.distance)
    c.put32.ensures in
    let edition = byte (byte (byte (byte distance r.charts) r.slaves) r.nodes) r.edition in
    let transitions =
    part edition (bytes 2 r.transitions) c.put16.ensures in
    (part transitions (bytes 2 0) c.put16-2.ensures).is

pub bounds-s-at-2 : goal.bounds-s-at-2
bounds-s-at-2 c = simp length-set (omega arith)

pub bounds-s-at-3 : goal.bounds-s-at-3
bounds-s-at-3 c = simp length-set (omega arith)

pub bounds-s-at-4 : goal.bounds-s-at-4
bounds-s-at-4 c = simp length-set (omega arith)

pub put16-requires : goal.put16-requires
put16-requires c = simp length-set (omega arith)

pub put16-requires-2 : goal.put16-requires-2
put16-requires-2 c = omega (arith, simp (length-sets, length-set) at (ap length c.put16.ensures))

pub shape_of-s : goal.shape_of-s
shape_of-s c =
    omega (
      arith,
      simp (length-sets, length-set) at (ap length c.put16.ensures),
    )
