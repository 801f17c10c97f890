use mathlib.Core.Path.{sym}
use native.Mathlib.Omega.{arith}
use Rattle.layout.specs.Body.Laws.{start_of-none}
use Rattle.meaning.specs.File.{file_at}
use Rattle.layout.specs.Put.Laws.{put-length}
use Rattle.laying.specs.Sequence.{put-start, put_next, put-done, room_turn}
use Rattle.checks.specs.Known.Laws.{in_all, start-next}
use Rattle.assembly.proofs.transitions.Goals as goal
use Rattle.assembly.proofs.transitions.Invariants.{written}

pub loop-c-init : goal.loop-c-init
loop-c-init c = (sym (start_of-none _ _), put-start _)

pub chart-p-requires : goal.chart-p-requires
unfolding file_at
chart-p-requires c =
    let p = c.requires in
    let a = c.args in
    let t = c.loop-c-test.true in (
      p.0,
      p.1,
      p.2 c.loop-c.c t,
      record { there = t; head = c.head_at-h.ensures; start = c.loop-c.invariant.0 },
      room_turn (written a.n a.body.now) p.3 t c.loop-c.invariant.1,
    )

pub loop-c-preserved : goal.loop-c-preserved
loop-c-preserved c = (
  start-next _ _ _ _ c.head_at-h.ensures c.loop-c.invariant.0,
  put_next _ c.loop-c.invariant.1 c.chart-p.ensures,
)

pub returns : goal.returns
returns c = put-done _ (omega arith) c.loop-c.invariant.1

pub head_at-h-requires : goal.head_at-h-requires
head_at-h-requires c = (c.requires.0.sized.holds, c.loop-c-test.true)

pub overflow_add-start : goal.overflow_add-start
overflow_add-start c =
    let h = c.requires.0.sized.transitions in
    let r = in_all _ _ _ _ c.head_at-h.ensures
    c.loop-c.invariant.0
    c.requires.0.summed
    c.loop-c-test.true in omega arith

pub shape_of-out : goal.shape_of-out
shape_of-out c = put-length c.loop-c.invariant.1
