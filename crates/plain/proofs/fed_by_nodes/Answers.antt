use mathlib.Core.Path.{◌≡◌}
use native.Mathlib.Omega.{arith}
use Rattle.meaning.proofs.Rewriting.Laws.{union_none, union_taken}
use Rattle.plain.proofs.fed_by_nodes.Goals as goal

pub loop-j-init : goal.loop-j-init
loop-j-init c = union_none _

pub loop-j-preserved : goal.loop-j-preserved
loop-j-preserved c =
    union_taken c.loop-j.j _ c.loop-j.invariant c.fed_by_node-all.ensures

pub returns : goal.returns
returns c =
    let e : c.loop-j.j ≡ c.args.n.nodes = omega arith in
    rw e at c.loop-j.invariant

pub fed_by_node-all-requires : goal.fed_by_node-all-requires
fed_by_node-all-requires c = (c.requires, omega arith)
