use mathlib.Core.Path.{◌≡◌, refl, sym, ◌∙◌, subst}
use native.Mathlib.Omega.{arith}
use Rattle.layout.specs.Body.{start_of}
use Rattle.tables.specs.Insertion.Laws.{until_none}
use Rattle.candidates.specs.Candidates.{UntilChart}
use Rattle.candidates.proofs.list_all.Goals as goal

pub loop-c-init : goal.loop-c-init
unfolding start_of
loop-c-init c =
    let r = c.requires in
    (refl, until_none _ _ _ _ _ _ _ r.0.sized.charts r.2.small)

pub list_chart-start-requires : goal.list_chart-start-requires
list_chart-start-requires c =
    let r = c.requires in (
      r.0,
      r.1,
      record { masks = rw c.loop-c.invariant.1.masks r.2.masks; small = c.loop-c.invariant.1.small },
      c.loop-c-test.true,
      c.loop-c.invariant.0,
    )

pub loop-c-preserved : goal.loop-c-preserved
loop-c-preserved c = (
  c.list_chart-start.ensures.0,
  c.list_chart-start.ensures.2 _ _
      c.loop-c.invariant.1,
)

pub returns : goal.returns
returns c =
    let a = c.args in
    let e : c.loop-c.c ≡ a.n.charts = omega arith in
    subst (λ z. UntilChart a.n a.body.now a.config.now a.reads.now a.lows.now a.shuts.now
    a.masks.now a.small.now z c.loop-c.masks c.loop-c.small) e c.loop-c.invariant.1

pub shape_of-small : goal.shape_of-small
shape_of-small c =
    c.loop-c.invariant.1.small
    ∙ sym c.requires.2.small
