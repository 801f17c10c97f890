use mathlib.Core.Path.{◌≡◌, refl, subst, ◌∙◌}
use Prim.Native.Nat.{ℕ}
use native.Mathlib.Omega.{arith}
use lib.ListN.{length-set}
use Rattle.meaning.specs.File.{file_at}
use Rattle.plan.specs.ByNode.{WiredTo}
use Rattle.plan.proofs.NextNode.{wired_none, wired_whole, sets_more, charts_few}
use Rattle.plan.proofs.wired.Goals as goal

pub loop-j-init : goal.loop-j-init
unfolding file_at
loop-j-init c = (
  refl,
  refl,
  λ i p. absurd (omega arith),
  wired_none (file_at c.args.n c.args.body.now) c.args.masks.now c.requires.0.sized.charts
      c.requires.2,
)

pub wire_node-set-requires : goal.wire_node-set-requires
wire_node-set-requires c = (
  c.requires.0,
  c.loop-j-test.true,
  rw c.loop-j.invariant.0 c.requires.1,
  c.loop-j.invariant.2,
  c.loop-j.invariant.3,
)

pub loop-j-preserved : goal.loop-j-preserved
loop-j-preserved c =
    let i = c.loop-j.invariant in
    let F = file_at c.args.n c.args.body.now in (
      c.wire_node-set.auto.masks ∙ i.0,
      length-set c.loop-j.sets c.loop-j.j c.wire_node-set.result ∙ i.1,
      sets_more F c.loop-j.j c.loop-j.sets c.wire_node-set.result (omega (arith, i.1, c.requires.0.sized.nodes)) i.2
          c.wire_node-set.ensures.0,
      c.wire_node-set.ensures.1,
    )

-- a node's set has a bit for each chart
pub overflow_cast-sets : goal.overflow_cast-sets
unfolding file_at
overflow_cast-sets c =
    let F = file_at c.args.n c.args.body.now in
    let h = charts_few F c.requires.0.sound c.loop-j.j c.loop-j-test.true
    c.wire_node-set.result c.requires.0.sized.charts c.wire_node-set.ensures.0 in
    omega (arith, h)

pub nearest-requires : goal.nearest-requires
nearest-requires c = (c.requires.0, c.requires.3)

pub returns : goal.returns
unfolding file_at
returns c =
    let F = file_at c.args.n c.args.body.now in
    let e : c.loop-j.j ≡ c.args.n.nodes =
    omega (arith, c.loop-j.auto.j-end, c.loop-j-test.false) in
    wired_whole F c.requires.0.sound c.requires.0.sized.some_node c.loop-j.down c.loop-j.masks _
    (subst (λ (k : ℕ). WiredTo F k c.loop-j.down c.loop-j.masks) e c.loop-j.invariant.3)
    c.nearest.ensures

pub offset_bounds-sets-j : goal.offset_bounds-sets-j
offset_bounds-sets-j c = omega arith

pub bounds-sets-j : goal.bounds-sets-j
bounds-sets-j c = omega arith

pub shape_of-masks : goal.shape_of-masks
shape_of-masks c = c.loop-j.invariant.0
