use mathlib.Core.Path.{sym, ◌∙◌}
use Prim.Native.Nat.{◌+◌, ◌≤◌}
use native.Mathlib.Omega.{arith}
use lib.ListN.{length}
use Rattle.layout.specs.Body.{transition_at}
use Rattle.layout.specs.Body.Laws.{start_of-none}
use Rattle.meaning.specs.Sums.Laws.{tally-none, tally-more, tally-done}
use Rattle.meaning.specs.File.{file_at}
use Rattle.meaning.specs.Rewriting.{transitions_in}
use Rattle.checks.specs.Known.Laws.{in_all, start-next}
use Rattle.clearing.specs.Clearing.{cleared_chart}
use Rattle.clearing.specs.Left.{left_of}
use Rattle.clearing.proofs.LeftLaws.{left_most, count-cleared}
use Rattle.clearing.proofs.in_all.Goals as goal
use Rattle.clearing.proofs.in_all.Goals.{After-head_at-h, After-of_list-l}

pub loop-c-init : goal.loop-c-init
loop-c-init c = (sym (start_of-none _ _), omega arith, sym (tally-none _))

-- the transitions of a chart are there
there : (c : After-head_at-h)
    → c.loop-c.start + c.head_at-h.result.transitions
    ≤ c.args.n.transitions
there c =
    in_all _ _ _ _ c.head_at-h.ensures c.loop-c.invariant.0 c.requires.1 c.loop-c-test.true

-- of them at most all are left
few : (c : After-of_list-l)
    → c.of_list-l.result.count ≤ c.head_at-h.result.transitions
unfolding left_of
few c =
    let m = left_most c.head_at-h.result.feedback (transition_at c.args.n c.args.body.now)
    c.loop-c.start c.head_at-h.result.transitions in
    let e = c.of_list-l.ensures in
    rw e m

pub loop-c-preserved : goal.loop-c-preserved
loop-c-preserved c =
    let f = few (goal.at.loop-c-preserved c).After-of_list-l in
    let e = count-cleared c.args.n c.args.body.now c.loop-c.c c.loop-c.start _ c.head_at-h.ensures
    c.loop-c.invariant.0 _ c.of_list-l.ensures in
    let q = c.loop-c.invariant.2 in (
      start-next _ _ _ _ c.head_at-h.ensures c.loop-c.invariant.0,
      (let g = c.loop-c.invariant.1 in omega arith),
      omega (
        arith,
        e,
        q,
        tally-more c.loop-c.c
            (λ d. length (cleared_chart ((file_at c.args.n c.args.body.now).chart d)).transitions),
      ),
    )

pub returns : goal.returns
unfolding transitions_in file_at
returns c = c.loop-c.invariant.2 ∙ tally-done _ _ _ c.loop-c.auto.c-end c.loop-c-test.false

pub head_at-h-requires : goal.head_at-h-requires
head_at-h-requires c = (c.requires.0.holds, c.loop-c-test.true)

pub of_list-l-requires : goal.of_list-l-requires
of_list-l-requires c = (c.requires.0.holds, there (goal.at.of_list-l-requires c).After-head_at-h)

pub overflow_add-sum : goal.overflow_add-sum
overflow_add-sum c =
    let t = there (goal.at.overflow_add-sum c).After-head_at-h in
    let f = few (goal.at.overflow_add-sum c).After-of_list-l in
    let m = c.requires.0.transitions in
    let g = c.loop-c.invariant.1 in
    omega arith

pub overflow_add-start : goal.overflow_add-start
overflow_add-start c =
    let t = there (goal.at.overflow_add-start c).After-head_at-h in
    let m = c.requires.0.transitions in
    omega arith
