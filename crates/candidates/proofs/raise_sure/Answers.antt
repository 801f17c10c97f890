use mathlib.Core.Path.{◌≡◌, subst}
use Prim.Native.Nat.{◌+◌}
use native.Mathlib.Omega.{arith}
use Rattle.candidates.specs.Candidates.{RaisedBy}
use Rattle.candidates.specs.Candidates.Laws.{raised-by-none, raised-by-next, tabled_fewer}
use Rattle.candidates.proofs.raise_sure.Goals as goal

pub loop-c-init : goal.loop-c-init
loop-c-init c =
    let a = c.args in
    (c.requires.2, raised-by-none a.n a.masks.now a.small.now a.sures.now a.low.now)

pub raise-requires : goal.raise-requires
raise-requires c = (
  tabled_fewer (c.loop-c.c + 1) c.requires.1 (omega (arith, c.loop-c-test.true)),
  c.loop-c.invariant.0,
  omega (arith, c.loop-c-test.true, c.requires.0),
)

pub loop-c-preserved : goal.loop-c-preserved
loop-c-preserved c =
    let a = c.args in
    let r = c.loop-c-test.true in (
      c.raise.ensures.0,
      raised-by-next a.n a.masks.now a.small.now a.sures.now a.low.now c.loop-c.c
          c.surely-sure.result c.loop-c.low c.raise.new.low c.loop-c.invariant.1 c.surely-sure.ensures
          c.raise.ensures.1,
    )

pub returns : goal.returns
returns c =
    let a = c.args in
    let e : c.loop-c.c ≡ a.n.charts = omega arith in
    subst (λ z. RaisedBy a.n a.masks.now a.small.now a.sures.now z a.low.now c.loop-c.low) e
    c.loop-c.invariant.1
