use mathlib.Core.Path.{◌≡◌, ap, ◌∙◌}
use Prim.Native.Nat.{ℕ, ◌+◌}
use native.Mathlib.Omega.{arith}
use Rattle.growth.specs.Growth.Laws.{nodes_none, nodes_more}
use Rattle.growth.proofs.nodes.Goals as goal

pub loop-j-init : goal.loop-j-init
loop-j-init c = (omega arith, nodes_none _)

pub loop-j-preserved : goal.loop-j-preserved
loop-j-preserved c =
    let e = c.before_last.ensures.0 in
    let m = c.before_last.ensures.1 in
    (omega arith, ap (λ (k : ℕ). c.loop-j.sum + (k + 1)) e ∙ nodes_more _ c.loop-j.j c.loop-j.invariant.1)

pub returns : goal.returns
returns c =
    let e : c.loop-j.j ≡ c.args.n.nodes = omega arith in
    rw e at c.loop-j.invariant.1

pub before_last-requires : goal.before_last-requires
before_last-requires c = (c.requires, omega arith)
