use mathlib.Core.Path.{◌≡◌, refl, ◌∙◌, subst}
use native.Mathlib.Omega.{arith}
use lib.ListN.{length-set}
use Rattle.layout.specs.Body.{start_of}
use Rattle.checks.specs.Known.Laws.{in_all, start-next}
use Rattle.relevance.specs.Relevance.{Asks}
use Rattle.relevance.specs.Relevance.Laws.{asks_next}
use Rattle.relevance.proofs.asked_all.Goals as goal

pub loop-c-init : goal.loop-c-init
unfolding start_of
loop-c-init c = (refl, refl, λ d l. absurd (omega arith))

pub asked_of-requires : goal.asked_of-requires
asked_of-requires c = (
  c.requires.sized.holds,
  in_all c.args.n c.args.body.now c.loop-c.c c.loop-c.start c.head_at-head.ensures c.loop-c.invariant.0
      c.requires.summed c.loop-c-test.true,
)

pub bounds-asks-c : goal.bounds-asks-c
bounds-asks-c c = omega (
  arith,
  c.loop-c.invariant.1,
  c.loop-c-test.true,
  c.requires.sized.charts,
)

pub overflow_add-start : goal.overflow_add-start
overflow_add-start c =
    omega (
      arith,
      c.requires.sized.transitions,
      in_all c.args.n c.args.body.now c.loop-c.c c.loop-c.start c.head_at-head.ensures
          c.loop-c.invariant.0 c.requires.summed c.loop-c-test.true,
    )

pub loop-c-preserved : goal.loop-c-preserved
loop-c-preserved c =
    let h = c.head_at-head.ensures in
    let r = c.loop-c-test.true in (
      start-next c.args.n c.args.body.now c.loop-c.c c.loop-c.start h c.loop-c.invariant.0,
      length-set c.loop-c.asks c.loop-c.c c.asked_of.result ∙ c.loop-c.invariant.1,
      asks_next c.args.n c.args.body.now c.args.config.now c.loop-c.c c.loop-c.asks _ c.loop-c.start _ c.loop-c.invariant.2
          (omega (arith, r, c.requires.sized.charts, c.loop-c.invariant.1)) c.loop-c.invariant.0 h c.asked_of.ensures,
    )

pub returns : goal.returns
returns c =
    let a = c.args in
    let e : c.loop-c.c ≡ a.n.charts = omega arith in
    subst (λ z. Asks a.n a.body.now a.config.now z c.loop-c.asks) e c.loop-c.invariant.2

pub head_at-head-requires : goal.head_at-head-requires
head_at-head-requires c = (c.requires.sized.holds, c.loop-c-test.true)

pub bounds-config-c : goal.bounds-config-c
bounds-config-c c =
    omega (
      arith,
      c.loop-c-test.true,
      c.requires.configured,
    )
