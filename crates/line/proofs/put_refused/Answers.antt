-- `line::put_refused` meets its contract. Each part is written where the one before it ends.
use Prim.Native.Nat.{◌+◌, ◌≤◌}
use native.Mathlib.Omega.{arith}
use lib.ListN.{length}
use Rattle.line.specs.Line.{decimal, closing, refused_fields}
use Rattle.line.specs.Line.Laws.{closing_refused, length_refused}
use Rattle.layout.specs.Put.{Room}
use Rattle.layout.specs.Put.Laws.{put-append}
use Rattle.line.proofs.put_refused.Goals as goal
use Rattle.line.proofs.put_refused.Goals.{Start}

-- room for all of it
room : (c : Start) → c.args.at + (10 + length (decimal c.args.refusal)) ≤ length c.args.out.now
room c =
    let h : Room c.args.out.now c.args.at (closing (refused_fields c.args.refusal)) = c.requires in
    omega (arith, length_refused c.args.refusal)

pub returns : goal.returns
returns c =
    let word = c.put_word-number.ensures in
    let number = c.put_decimal-end.ensures in
    rw closing_refused (put-append word (put-append number c.put_byte.ensures))

pub put_word-number-requires : goal.put_word-number-requires
put_word-number-requires c = omega (arith, room (goal.at.put_word-number-requires c).Start)

pub put_decimal-end-requires : goal.put_decimal-end-requires
put_decimal-end-requires c = omega (arith, room (goal.at.put_decimal-end-requires c).Start)

pub put_byte-requires : goal.put_byte-requires
put_byte-requires c = omega (arith, room (goal.at.put_byte-requires c).Start)
