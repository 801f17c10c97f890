-- `lines_for` meets its contract: the line of a refusal, or the lines of the run's rows.
use mathlib.Core.Path.{sym}
use Prim.Native.Nat.{◌/◌, ◌≤◌}
use native.Mathlib.Omega.{arith}
use Rattle.checks.specs.Refusals.Laws.{number-some}
use Rattle.stepping.specs.Step.Laws.{checked}
use Rattle.day.specs.Day.Laws.{printed, rows_fit, day_refused, day-given}
use Rattle.day.proofs.lines_for.Goals as goal

pub returns-in-Err : goal.returns-in-Err
returns-in-Err c =
    printed _ _ _ _ _ (day_refused _ _ c.in-Err.ensures (number-some _)) (rw c.number.ensures at c.refused_file.ensures)

pub put_rows-requires : goal.put_rows-requires
put_rows-requires c =
    let e = c.in-Ok.ensures in
    let a = e.1.accepted in
    let w = e.1.stands in
    let few : c.in-Ok.o.start / 8 ≤ 8192 = omega (arith, a.within, c.requires.0) in (
      a,
      record {
        shape = w.shape;
        body = w.body;
        checked = checked _ _ _ a.passes w.shape w.body (rw w.body w.sized) (rw w.body w.summed);
      },
      few,
      omega (arith, rows_fit _ _ few a.few, c.row_room-rows.ensures),
    )

pub returns : goal.returns
returns c =
    let e = c.in-Ok.ensures in
    printed _ _ _ _ _ (day-given _ _ _ _ _ (sym e.0) e.1.accepted e.1.inputs c.put_rows.ensures) c.put_lines.ensures
