-- There is room for the sets that are counted, and the body of a file that is opened is in order.
use Rattle.std.proofs.Common.{arith, length-take}
use Rattle.stepping.specs.Step.Laws.{checked}
use Rattle.chart.proofs.tell.run.Goals as goal

pub run_typed-requires : goal.run_typed-requires
run_typed-requires g c =
    let e = c.in-Ok.ensures in
    let w = e.1 in (
      checked _ _ _ e.0 w.shape w.body (rw w.body w.sized) (rw w.body w.summed),
      rw length-take (omega (arith, c.if-count-gt-MOST_SETS.false)),
    )
