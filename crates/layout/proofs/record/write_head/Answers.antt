-- `record::write_head` meets its contract. Each part is written where the one before it ends.
use mathlib.Core.Path.{ap}
use native.Mathlib.Omega.{arith}
use lib.ListN.{length, length-set}
use lib.Seq.{length-sets}
use Rattle.layout.specs.Le.{bytes}
use Rattle.layout.specs.Record.{head_bytes}
use Rattle.layout.proofs.Laws.{part, byte, first}
use Rattle.layout.proofs.record.write_head.Goals as goal

pub returns : goal.returns
unfolding bytes head_bytes
returns c =
    let a =
    c.args in
    let r = a.r in
    let zeros = byte (byte (byte (first a.s.now a.at r.states) r.initial) r.transitions) 0 in
    let more = part zeros (bytes 4 0)
    c.put32.ensures in
    let feedback =
    part more (bytes 8 r.feedback) c.put64.ensures in
    (part feedback (bytes 8 r.extra) c.put64-2.ensures).is

pub bounds-s-at-2 : goal.bounds-s-at-2
bounds-s-at-2 c = simp length-set (omega arith)

pub bounds-s-at-3 : goal.bounds-s-at-3
bounds-s-at-3 c = simp length-set (omega arith)

pub bounds-s-at-4 : goal.bounds-s-at-4
bounds-s-at-4 c = simp length-set (omega arith)

pub put32-requires : goal.put32-requires
put32-requires c = simp length-set (omega arith)

pub put64-requires : goal.put64-requires
put64-requires c = omega (arith, simp (length-sets, length-set) at (ap length c.put32.ensures))

pub put64-requires-2 : goal.put64-requires-2
put64-requires-2 c =
    omega (
      arith,
      simp (length-sets, length-set) at
          (ap length c.put32.ensures),
    )

pub shape_of-s : goal.shape_of-s
shape_of-s c =
    omega (
      arith,
      simp (
        length-sets,
        length-set,
      ) at (ap length
          c.put32.ensures),
    )
