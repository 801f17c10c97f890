-- `list_chart` meets its contract. Its transitions are listed under what the chart is and might be offered. Assumes
-- nothing.
use Prim.Native.Nat.{◌+◌}
use native.Mathlib.Omega.{arith}
use borrow.Author.Rules.{rules}
use Rattle.cells.specs.Table.{count_cell}
use Rattle.checks.specs.Known.Laws.{in_all, start-next}
use Rattle.candidates.specs.Candidates.Laws.{chart_room, chart_tabled, chart-next, tabled_fewer}
use Rattle.candidates.proofs.list_chart.Goals as goal
use Rattle.candidates.proofs.list_chart.Goals.{After-list-arg-2-1, Start}

-- the function's entry, from where its transitions are listed
abbrev entry : After-list-arg-2-1 → Start
entry c = (goal.at.After-list-arg-2-1 c).Start

pub list-have-requires : goal.list-have-requires
list-have-requires c =
    let a = (entry (goal.at.list-have-requires c).After-list-arg-2-1).args in
    let r = (entry (goal.at.list-have-requires c).After-list-arg-2-1).requires in
    let h =
    c.head_at-head.ensures in
    let few = r.0.sized.charts in (
      r.0.sized.holds,
      in_all a.n a.body.now a.c a.start h r.4 r.0.summed r.3,
      search rules,
      tabled_fewer (a.c + 1) r.2 (omega arith),
      omega arith,
      chart_room a.n a.body.now a.config.now r.0 a.c a.start _ r.3 r.4 h,
    )

pub put_count-requires : goal.put_count-requires
put_count-requires c =
    let r = (entry (goal.at.put_count-requires c).After-list-arg-2-1).requires in
    (search rules, omega (arith, r.0.sized.charts, r.3))

pub overflow_add-result : goal.overflow_add-result
overflow_add-result c =
    let a = (entry (goal.at.overflow_add-result c).After-list-arg-2-1).args in
    let r = (entry (goal.at.overflow_add-result c).After-list-arg-2-1).requires in
    omega (
      arith,
      in_all a.n a.body.now a.c a.start
          c.head_at-head.ensures
          r.4 r.0.summed r.3,
      r.0.sized.transitions,
    )

pub returns : goal.returns
returns c =
    let a = (entry (goal.at.returns c).After-list-arg-2-1).args in
    let r = (entry (goal.at.returns c).After-list-arg-2-1).requires in
    let h =
    c.head_at-head.ensures in
    let e = c.put_count.ensures in
    let f = c.list-have.ensures.0 in (
      start-next a.n a.body.now a.c a.start h r.4,
      rw e (chart_tabled a.n.charts _ _ _ _ _ _ _ _ _ _ _ _ _ (count_cell a.c) f r.2),
      rw e (chart-next a.n a.body.now a.config.now a.reads.now r.0 a.lows.now a.may.now
          a.shuts.now r.1 a.masks.now a.small.now a.c a.start _ _ _ _ _ _ r.2 r.3 r.4 h
          c.back-own.ensures c.others-rest.ensures f),
    )
