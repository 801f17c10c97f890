-- A case more is posted (`stepped`), and then all are (`finished`).
use Rattle.std.proofs.Common.{◌≡◌, [], arith}
use Rattle.desk.specs.declared.Case.{Case}
use Rattle.ledger.specs.Underway.Laws.{same_case, room_for, stepped, finished}
use Rattle.ledger.proofs.post_all.Goals as goal

pub post_one-requires : goal.post_one-requires
post_one-requires c =
    let a = c.args in let s = c.loop-i in let p = c.requires in
    let none : Case = record { carried = 0; last = 0; length = 0; config = [] } in
    let e = same_case a.file.now a.d a.charts a.n a.cases.now a.rows.now p s.i s.cases s.rows s.invariant
    c.loop-i-test.true none in (
      omega (arith, p.few),
      p.narrow,
      rw (← e) (p.known s.i _ c.loop-i-test.true),
      rw (← e) (p.rising s.i _ c.loop-i-test.true),
      room_for a.file.now a.d a.charts a.n a.cases.now a.rows.now p s.i s.cases s.rows s.invariant
          c.loop-i-test.true none,
    )

pub loop-i-preserved : goal.loop-i-preserved
loop-i-preserved c =
    let a = c.args in let s = c.loop-i in
    stepped a.file.now a.d a.charts a.n a.cases.now a.rows.now c.requires s.i s.cases s.rows s.invariant
    c.loop-i-test.true _ c.post_one.result c.post_one.new.rows c.post_one.ensures.0 c.post_one.ensures.1
    c.post_one.auto.rows

pub returns : goal.returns
returns c =
    let a = c.args in let s = c.loop-i in
    let e : s.i ≡ a.n = omega (arith, s.invariant.within) in
    finished a.file.now a.d a.charts a.n a.cases.now a.rows.now c.requires s.cases s.rows (rw e at s.invariant)
