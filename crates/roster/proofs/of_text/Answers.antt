use native.Mathlib.Omega.{arith}
use Rattle.roster.specs.Laws.Walk.{walked_begun, walked_end}
use Rattle.roster.proofs.of_text.Goals as goal

pub loop-r-init : goal.loop-r-init
loop-r-init c =
    let b = c.begun-r.ensures in (omega (arith, b.0), λ t x. walked_begun _ _ t b.0 (b.1 _) x)

pub step-r-requires : goal.step-r-requires
step-r-requires c = omega (arith, c.next_token.ensures.0, c.loop-r-test.true)

pub loop-r-smaller : goal.loop-r-smaller
loop-r-smaller c = omega (arith, c.step-r.ensures.within, c.step-r.ensures.further)

pub loop-r-preserved : goal.loop-r-preserved
loop-r-preserved c =
    let s = c.step-r.ensures in
    (s.within, λ t x. s.walked t (c.loop-r.invariant.1 t x))

pub returns : goal.returns
returns c t x =
    walked_end _ _ _ t (omega (arith, c.next_token.ensures.0, c.loop-r-test.false)) (c.loop-r.invariant.1 t x)
    c.closed.ensures

pub next_token-requires : goal.next_token-requires
next_token-requires c = c.loop-r.invariant.0
