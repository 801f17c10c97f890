use mathlib.Core.Path.{◌≡◌, sym, ap, ◌∙◌}
use mathlib.Core.List.{List}
use Prim.Native.Nat.{ℕ, ◌+◌, ◌≤◌}
use native.Mathlib.Omega.{arith}
use lib.ListN.{length}
use Rattle.layout.specs.Record.{head_bytes}
use Rattle.layout.specs.Record.Laws.{length-head}
use Rattle.layout.specs.Body.{head_at}
use Rattle.layout.specs.declared.body.Shape.{Shape}
use Rattle.layout.specs.declared.record.Head.{Head}
use Rattle.meaning.specs.File.{file_at, chart_of}
use Rattle.meaning.specs.Rewriting.{chart_with, rewritten_chart, head_for}
use Rattle.layout.specs.Put.Laws.{put-length}
use Rattle.laying.specs.Sequence.{put_is, put-start, put_next, put-done, room_record}
use Rattle.growth.specs.Growth.Laws.{length_rewritten}
use Rattle.assembly.proofs.heads.Goals as goal
use Rattle.assembly.proofs.heads.Goals.{After-in_chart, In-loop-c}
use Rattle.assembly.proofs.heads.Invariants.{written}

-- h is the head of chart c, t the rewritten chart's number
new_is : (n : Shape) (b : List ℕ) (c t : ℕ) (h : Head) → h ≡ head_at n b c
    → t ≡ length (rewritten_chart (file_at n b) c).transitions
    → record { states = h.states; initial = h.initial; transitions = t; feedback = h.feedback; extra = h.extra }
    ≡ head_for (rewritten_chart (file_at n b) c)
unfolding head_for rewritten_chart chart_with file_at chart_of
new_is n b c t h eh et = λ i. record {
  states = (eh i).states;
  initial = (eh i).initial;
  transitions = et i;
  feedback = (eh i).feedback;
  extra = (eh i).extra;
}

room : (c : In-loop-c) → c.loop-c.p + 24 ≤ length c.loop-c.out
room c =
    room_record (written c.args.n c.args.body.now) 24 (length-head _) c.requires.3 c.loop-c-test.true
    c.loop-c.invariant

-- what was counted is the chart's number
is : (c : After-in_chart)
    → c.in_chart.result ≡ length (rewritten_chart
    (file_at c.args.n
    c.args.body.now)
    c.loop-c.c
    ).transitions
unfolding file_at
is c =
    let k = c.requires.1 _ c.loop-c-test.true in
    c.in_chart.ensures.0 ∙ sym (length_rewritten _ _ _ c.head_at-h.ensures k)

small : (c : After-in_chart) → c.in_chart.result ≤ 64
unfolding file_at
small c =
    let h = c.requires.2.lists c.loop-c.c c.loop-c-test.true in
    let e = is c in
    omega arith

pub loop-c-preserved : goal.loop-c-preserved
loop-c-preserved c = put_next _ c.loop-c.invariant
    (put_is (ap head_bytes (new_is _ _ _ _ _ c.head_at-h.ensures (is (goal.at.loop-c-preserved c).After-in_chart))) c.put_head-p.ensures)

pub loop-c-init : goal.loop-c-init
loop-c-init c = put-start _

pub head_at-h-requires : goal.head_at-h-requires
head_at-h-requires c = (c.requires.0.sized.holds, c.loop-c-test.true)

pub overflow_cast-new : goal.overflow_cast-new
overflow_cast-new c = let s = small (goal.at.overflow_cast-new c).After-in_chart in omega arith

pub put_head-p-requires : goal.put_head-p-requires
put_head-p-requires c = room (goal.at.put_head-p-requires c).In-loop-c

pub shape_of-out : goal.shape_of-out
shape_of-out c = put-length c.loop-c.invariant

pub returns : goal.returns
returns c = put-done _ (omega arith) c.loop-c.invariant
