use Prim.Native.Nat.{◌+◌}
use native.Mathlib.Omega.{arith}
use Rattle.counting.specs.Counting.Laws.{branch-none, branch-more, branch-done}
use Rattle.counting.proofs.branch.Goals as goal

pub loop-d-init : goal.loop-d-init
loop-d-init c =
    let a = c.args in
    branch-none a.masters.now a.states.now a.counts.now a.c a.q a.u

pub factor-product-requires : goal.factor-product-requires
factor-product-requires c =
    let r = c.requires.0 in
    record {
      masters = omega (arith, r.masters);
      states = omega (arith, r.states);
      counts = omega (arith, r.counts);
    }

pub overflow_mul-product : goal.overflow_mul-product
overflow_mul-product c =
    let a = c.args in
    let e = branch-more a.masters.now a.states.now a.counts.now a.c a.q a.u c.loop-d.d c.loop-d.product
    c.factor-product.result c.loop-d.invariant c.factor-product.ensures in
    let small = c.requires.1 (c.loop-d.d + 1) (omega arith) in
    omega arith

pub loop-d-preserved : goal.loop-d-preserved
loop-d-preserved c =
    let a = c.args in branch-more a.masters.now a.states.now a.counts.now a.c a.q a.u c.loop-d.d
    c.loop-d.product c.factor-product.result c.loop-d.invariant c.factor-product.ensures

pub returns : goal.returns
returns c =
    let a = c.args in
    branch-done a.masters.now a.states.now a.counts.now a.c a.q a.u a.charts c.loop-d.d
    c.loop-d.product c.loop-d.auto.d-end (omega arith) c.loop-d.invariant
