-- `line::line` meets its contract. A line is its number and what closes it, and is no longer than 105 bytes.
use Prim.Native.Nat.{◌≤◌}
use native.Mathlib.Omega.{arith}
use lib.ListN.{length, get_or, length-append}
use Rattle.layout.specs.Le.{AllBytes}
use Rattle.line.specs.Line.{decimal, closing, given_fields, refused_fields}
use Rattle.line.specs.Line.Laws.{line-given, line_refused, number_le, given-le, refused_le}
use Rattle.layout.specs.Put.Laws.{put-append, put-over}
use Rattle.line.proofs.line.Goals as goal
use Rattle.line.proofs.line.Goals.{After-shared_slice_known-1, Start}

-- how long the parts are
pub record Short (c : Start) : Type 0 where
  pub number : length (decimal c.args.number) ≤ 20
  pub given : length (closing (given_fields c.args.row.now)) ≤ 85
  pub refused : length (closing (refused_fields (get_or c.args.row.now 9 0))) ≤ 13

short : (c : After-shared_slice_known-1) → Short (goal.at.After-shared_slice_known-1 c).Start
short c =
    let bytes : AllBytes c.args.row.now = λ i. omega (arith, c.type_inv.row i) in
    record {
      number = number_le c.args.number (omega arith);
      given = given-le c.args.row.now bytes c.requires.1;
      refused = refused_le (get_or c.args.row.now 9 0) (bytes 9);
    }

pub returns-then-refusal-eq0 : goal.returns-then-refusal-eq0
returns-then-refusal-eq0 c =
    let a = c.args in
    let p = put-append c.put_decimal-next.ensures
    c.put_given.ensures in
    rw (line-given a.number a.row.now c.if-refusal-eq0.true)
    (put-over p (rw length-append (omega (arith, short (goal.at.returns-then-refusal-eq0 c).After-shared_slice_known-1))))

pub returns-else-refusal-eq0 : goal.returns-else-refusal-eq0
returns-else-refusal-eq0 c =
    let a = c.args in
    let p = put-append c.put_decimal-next.ensures
    c.put_refused.ensures in
    rw (line_refused a.number a.row.now c.if-refusal-eq0.false)
    (put-over p (rw length-append (omega (arith, short (goal.at.returns-else-refusal-eq0 c).After-shared_slice_known-1))))

pub put_decimal-next-requires : goal.put_decimal-next-requires
put_decimal-next-requires c =
    omega (arith, short (goal.at.put_decimal-next-requires c).After-shared_slice_known-1)

pub put_given-requires : goal.put_given-requires
put_given-requires c =
    (omega arith, omega (arith, short (goal.at.put_given-requires c).After-shared_slice_known-1))

pub put_refused-requires : goal.put_refused-requires
put_refused-requires c = omega (arith, short (goal.at.put_refused-requires c).After-shared_slice_known-1)
