use mathlib.Core.Path.{◌≡◌, ap₂, ◌∙◌}
use Prim.Native.Nat.{ℕ}
use native.Mathlib.Omega.{arith}
use Rattle.signals.specs.Mask.{◌∪◌}
use Rattle.layout.specs.declared.record.Node.{Node}
use Rattle.meaning.specs.File.{file_at}
use Rattle.meaning.proofs.Rewriting.Laws.{union_none, union_more}
use Rattle.allocation.proofs.used_by_nodes.Goals as goal

pub loop-j-init : goal.loop-j-init
loop-j-init c = union_none _

pub loop-j-preserved : goal.loop-j-preserved
unfolding file_at
loop-j-preserved c = ap₂ (λ (a : ℕ) (r : Node). a ∪ (r.x ∪ r.y)) c.loop-j.invariant c.node_at-r.ensures ∙ union_more c.loop-j.j _

pub returns : goal.returns
returns c =
    let a = c.args in
    let e : c.loop-j.j ≡ a.n.nodes = omega arith in
    rw e at c.loop-j.invariant

pub node_at-r-requires : goal.node_at-r-requires
node_at-r-requires c = (c.requires.sized.holds, omega arith)
