-- `line::put_given` meets its contract. Each part is written where the one before it ends.
use mathlib.Core.Path.{◌≡◌, ap}
use mathlib.Core.List.{List}
use Prim.Native.Nat.{ℕ, ◌+◌, ◌-◌, ◌≤◌}
use native.Mathlib.Omega.{arith}
use lib.ListN.{length, take, drop, length-drop}
use lib.Seq.{take_all}
use Rattle.line.specs.Line.{dotted, closing, given_fields}
use Rattle.line.specs.Line.Laws.{closing-given, length-given, length_output}
use Rattle.layout.specs.Put.{Room}
use Rattle.layout.specs.Put.Laws.{put-append}
use Rattle.line.proofs.put_given.Goals as goal
use Rattle.line.proofs.put_given.Goals.{Start}

-- the configuration is the row from byte 10 on
config : (row : List ℕ) → take (length row - 10) (drop 10 row) ≡ drop 10 row
config row = take_all (length row - 10) (drop 10 row) (omega (arith, length-drop 10 row))

-- room for all of it
room : (c : Start)
    → c.args.at + (21 + length (dotted (drop 10 c.args.row.now))) ≤ length c.args.out.now
room c =
    let h : Room c.args.out.now c.args.at (closing (given_fields c.args.row.now)) = c.requires.1 in
    omega (arith, length-given c.args.row.now)

pub put_output-states-requires : goal.put_output-states-requires
put_output-states-requires c =
    omega (arith, room (goal.at.put_output-states-requires c).Start, length_output c.le64.result)

pub put_states-mark-requires : goal.put_states-mark-requires
put_states-mark-requires c =
    rw (config c.args.row.now)
    (omega (arith, room (goal.at.put_states-mark-requires c).Start, length_output c.le64.result))

pub put_mark-requires : goal.put_mark-requires
put_mark-requires c =
    let e = ap (λ (l : List ℕ). length (dotted l)) (config c.args.row.now) in
    omega (
      arith,
      room (goal.at.put_mark-requires c).Start,
      length_output c.le64.result,
    )

pub returns : goal.returns
returns c =
    let row = c.args.row.now in
    let output = rw c.le64.ensures at c.put_output-states.ensures in
    let states = rw (config row) at c.put_states-mark.ensures in
    rw closing-given (put-append output (put-append states c.put_mark.ensures))
