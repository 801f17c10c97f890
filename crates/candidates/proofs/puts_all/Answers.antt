use mathlib.Core.Path.{◌≡◌, refl, subst}
use native.Mathlib.Omega.{arith}
use Rattle.layout.specs.Body.{start_of}
use Rattle.checks.specs.Known.Laws.{in_all, start-next}
use Rattle.candidates.specs.Candidates.{PutsBy}
use Rattle.candidates.specs.Candidates.Laws.{puts_by-none, puts_by-next}
use Rattle.candidates.proofs.puts_all.Goals as goal

pub loop-c-init : goal.loop-c-init
unfolding start_of
loop-c-init c = (refl, puts_by-none _ _ _ _ _ _ _ c.requires.1 c.requires.2 c.requires.3)

pub puts_of-puts-requires : goal.puts_of-puts-requires
puts_of-puts-requires c = (
  c.requires.0.sized.holds,
  in_all c.args.n c.args.body.now c.loop-c.c c.loop-c.start c.head_at-head.ensures c.loop-c.invariant.0
      c.requires.0.summed c.loop-c-test.true,
)

pub overflow_add-start : goal.overflow_add-start
overflow_add-start c =
    omega (
      arith,
      c.requires.0.sized.transitions,
      in_all c.args.n c.args.body.now c.loop-c.c c.loop-c.start c.head_at-head.ensures c.loop-c.invariant.0
          c.requires.0.summed c.loop-c-test.true,
    )

pub loop-c-preserved : goal.loop-c-preserved
loop-c-preserved c =
    let r = c.loop-c-test.true in (
      start-next c.args.n c.args.body.now c.loop-c.c c.loop-c.start c.head_at-head.ensures
          c.loop-c.invariant.0,
      puts_by-next _ _ _ _ c.loop-c.c _ _ _ c.loop-c.start _ _ c.loop-c.invariant.1
          (omega (arith, r, c.requires.0.sized.charts))
          c.loop-c.invariant.0 c.head_at-head.ensures c.puts_of-puts.ensures,
    )

pub returns : goal.returns
returns c =
    let a = c.args in
    let e : c.loop-c.c ≡ a.n.charts = omega arith in
    subst (λ z. PutsBy a.n a.body.now a.config.now a.reads.now z c.loop-c.may c.loop-c.sures
    c.loop-c.counts) e c.loop-c.invariant.1
