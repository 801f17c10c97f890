use mathlib.Core.Path.{◌≡◌, refl, ◌∙◌, subst}
use native.Mathlib.Omega.{arith}
use Rattle.layout.specs.Body.{start_of}
use Rattle.checks.specs.Known.Laws.{in_all, start-next}
use Rattle.candidates.specs.Candidates.Laws.{chart_room}
use Rattle.staying.specs.Staying.{Telling}
use Rattle.staying.specs.Staying.Laws.{telling_none, telling_next}
use Rattle.staying.proofs.tell_all.Goals as goal

pub loop-c-init : goal.loop-c-init
unfolding start_of
loop-c-init c = (refl, refl, telling_none _ _ _ _ _ _ _ _ c.requires.2)

pub tell-requires : goal.tell-requires
tell-requires c =
    let here = c.loop-c-test.true in (
      c.requires.0.sized.holds,
      in_all c.args.n c.args.body.now c.loop-c.c c.loop-c.start c.head_at-head.ensures c.loop-c.invariant.0
          c.requires.0.summed here,
      omega (arith, c.loop-c.invariant.2.size, here),
      omega (arith, c.requires.0.sized.charts, here),
      chart_room c.args.n c.args.body.now c.args.config.now c.requires.0 c.loop-c.c c.loop-c.start _ here
          c.loop-c.invariant.0 c.head_at-head.ensures,
    )

pub overflow_add-start : goal.overflow_add-start
overflow_add-start c =
    omega (
      arith,
      in_all c.args.n c.args.body.now c.loop-c.c c.loop-c.start c.head_at-head.ensures c.loop-c.invariant.0 c.requires.0.summed
          c.loop-c-test.true,
      c.requires.0.sized.transitions,
    )

pub loop-c-preserved : goal.loop-c-preserved
loop-c-preserved c = (
  start-next c.args.n c.args.body.now c.loop-c.c c.loop-c.start c.head_at-head.ensures c.loop-c.invariant.0,
  c.tell.ensures.beside.size ∙ c.loop-c.invariant.1,
  telling_next c.args.n c.args.body.now c.args.config.now c.args.low c.args.may.now
      c.args.shuts c.args.masks.now c.loop-c.c c.loop-c.guards c.loop-c.stays _ c.loop-c.start _ _ _ c.loop-c.invariant.2
      (omega (arith, c.loop-c-test.true, c.requires.0.sized.charts)) c.loop-c.invariant.0 c.head_at-head.ensures
      c.others-others.ensures c.tell.ensures,
)

pub returns : goal.returns
returns c =
    let e : c.loop-c.c ≡ c.args.n.charts = omega arith in
    subst (λ z. Telling c.args.n c.args.body.now c.args.config.now c.args.low c.args.may.now
    c.args.shuts c.args.masks.now z c.loop-c.guards c.loop-c.stays) e c.loop-c.invariant.2

pub head_at-head-requires : goal.head_at-head-requires
head_at-head-requires c = (c.requires.0.sized.holds, c.loop-c-test.true)

pub others-others-requires : goal.others-others-requires
others-others-requires c = (c.requires.1, c.requires.0.sized.charts, c.loop-c-test.true)

pub bounds-low-c : goal.bounds-low-c
bounds-low-c c =
    omega (
      arith,
      c.loop-c-test.true,
      c.requires.0.sized.charts,
    )

pub bounds-config-c : goal.bounds-config-c
bounds-config-c c =
    omega (
      arith,
      c.loop-c-test.true,
      c.requires.0.configured,
    )

pub bounds-low-c-in-loop-c : goal.bounds-low-c-in-loop-c
bounds-low-c-in-loop-c c =
    omega (
      arith,
      c.loop-c-test.true,
      c.requires.0.sized.charts,
    )

pub bounds-shuts-c : goal.bounds-shuts-c
bounds-shuts-c c =
    omega (
      arith,
      c.loop-c-test.true,
      c.requires.0.sized.charts,
    )

pub bounds-stays-c : goal.bounds-stays-c
bounds-stays-c c =
    omega (
      arith,
      c.loop-c-test.true,
      c.requires.0.sized.charts,
    )

pub shape_of-guards : goal.shape_of-guards
shape_of-guards c = c.loop-c.invariant.1
