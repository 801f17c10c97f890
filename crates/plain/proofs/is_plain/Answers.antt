use mathlib.Core.Path.{◌≡◌, sym, ap, ap₂, ◌∙◌}
use mathlib.Core.Bool.{not}
use Prim.Native.Nat.{◌+◌, ◌≤◌}
use native.Mathlib.Omega.{arith}
use Rattle.layout.specs.Body.Laws.{start_of-none}
use Rattle.meaning.specs.Sums.Laws.{any_none, any-more, any_at, any-done}
use Rattle.meaning.specs.File.{file_at}
use Rattle.meaning.specs.Plain.{any_doubtful, plain_in}
use Rattle.checks.specs.Known.Laws.{in_all, start-next, own_are}
use Rattle.plain.proofs.is_plain.Goals as goal
use Rattle.plain.proofs.is_plain.Goals.{After-any_doubtful, After-head_at-h}
use Rattle.plain.proofs.is_plain.Invariants.{doubted}

pub loop-c-init : goal.loop-c-init
loop-c-init c = (sym (start_of-none _ _), any_none _)

-- a chart's transitions are there
fits : (c : After-head_at-h)
    → c.loop-c.start
    + c.head_at-h.result.transitions ≤ c.args.n.transitions
fits c =
    in_all _ _ _ _ c.head_at-h.ensures c.loop-c.invariant.0 c.requires.1 c.loop-c-test.true

-- what was asked of the chart
asked : (c : After-any_doubtful)
    → let a = c.args in
    c.any_doubtful.result ≡ doubted a.n a.body.now c.loop-c.c
asked c =
    c.any_doubtful.ensures
    ∙ ap₂ any_doubtful c.fed_back-fed.ensures
    (sym (own_are _ _ c.loop-c.c _ c.head_at-h.ensures c.loop-c.invariant.0))

pub returns-then-any_doubtful : goal.returns-then-any_doubtful
unfolding plain_in file_at
returns-then-any_doubtful c =
    sym (ap not
    (any_at _ (doubted _ _) c.loop-c.c c.loop-c-test.true (sym (asked (goal.at.returns-then-any_doubtful c).After-any_doubtful) ∙ c.if-any_doubtful.true)))

pub loop-c-preserved : goal.loop-c-preserved
loop-c-preserved c = (
  start-next _ _ _ _ c.head_at-h.ensures c.loop-c.invariant.0,
  any-more _ _ c.loop-c.invariant.1 (sym (asked (goal.at.loop-c-preserved c).After-any_doubtful) ∙ c.if-any_doubtful.false),
)

pub returns : goal.returns
unfolding plain_in file_at
returns c =
    ap not (any-done c.loop-c.c _ (doubted _ _) c.loop-c.auto.c-end c.loop-c-test.false c.loop-c.invariant.1)

pub head_at-h-requires : goal.head_at-h-requires
head_at-h-requires c = (c.requires.0.holds, omega arith)

pub any_doubtful-requires : goal.any_doubtful-requires
any_doubtful-requires c = (c.requires.0.holds, fits (goal.at.any_doubtful-requires c).After-head_at-h)

pub overflow_add-start : goal.overflow_add-start
overflow_add-start c =
    let r = fits (goal.at.overflow_add-start c).After-head_at-h in
    let t = c.requires.0.transitions in
    omega arith
