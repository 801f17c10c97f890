-- `record::write_transition` meets its contract. Each part is written where the one before it ends.
use mathlib.Core.Path.{ap}
use native.Mathlib.Omega.{arith}
use lib.ListN.{length, length-set}
use lib.Seq.{length-sets}
use Rattle.layout.specs.Le.{bytes}
use Rattle.layout.specs.Record.{transition_bytes}
use Rattle.layout.proofs.Laws.{part, byte, first}
use Rattle.layout.proofs.record.write_transition.Goals as goal

pub returns : goal.returns
unfolding bytes transition_bytes
returns c =
    let a = c.args in
    let r = a.r in
    let front = part (byte (first a.s.now a.at r.from) r.to) (bytes 2 0)
    c.put16.ensures in
    let needed = part front (bytes 8 r.needed)
    c.put64.ensures in
    let barred =
    part needed (bytes 8 r.barred) c.put64-2.ensures in
    (part barred (bytes 8 r.action) c.put64-3.ensures).is

pub bounds-s-at-2 : goal.bounds-s-at-2
bounds-s-at-2 c = simp length-set (omega arith)

pub put16-requires : goal.put16-requires
put16-requires c = simp length-set (omega arith)

pub put64-requires : goal.put64-requires
put64-requires c = omega (arith, simp (length-sets, length-set) at (ap length c.put16.ensures))

pub put64-requires-2 : goal.put64-requires-2
put64-requires-2 c =
    omega (
      arith,
      simp (length-sets, length-set) at
          (ap length c.put16.ensures),
    )

pub put64-requires-3 : goal.put64-requires-3
put64-requires-3 c =
    omega (
      arith,
      simp (
        length-sets,
        length-set,
      ) at (ap length
          c.put16.ensures),
    )

pub shape_of-s : goal.shape_of-s
shape_of-s c =
    omega (
      arith,
      simp (length-sets, length-set) at (ap length c.put16.ensures),
    )
