use Prim.Native.Nat.{◌+◌}
use native.Mathlib.Omega.{arith}
use Rattle.counting.specs.Counting.Laws.{total-none, total-more, total-done}
use Rattle.counting.proofs.total.Goals as goal

pub loop-d-init : goal.loop-d-init
loop-d-init c = let a = c.args in total-none a.masters.now a.counts.now

pub overflow_mul-product : goal.overflow_mul-product
overflow_mul-product c =
    let a = c.args in
    let e = total-more a.masters.now a.counts.now c.loop-d.d c.loop-d.product c.outside-product.result c.loop-d.invariant
    c.outside-product.ensures in
    let small = c.requires.2 (c.loop-d.d + 1) (omega arith) in
    omega arith

pub loop-d-preserved : goal.loop-d-preserved
loop-d-preserved c =
    let a = c.args in total-more a.masters.now a.counts.now c.loop-d.d c.loop-d.product c.outside-product.result c.loop-d.invariant
    c.outside-product.ensures

pub returns : goal.returns
returns c =
    let a = c.args in
    total-done a.masters.now a.counts.now a.n c.loop-d.d c.loop-d.product c.loop-d.auto.d-end (omega arith) c.loop-d.invariant
