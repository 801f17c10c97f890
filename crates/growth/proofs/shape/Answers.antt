-- `shape` meets its contract.
use mathlib.Core.Path.{ap₂}
use Prim.Native.Nat.{ℕ}
use Rattle.layout.specs.declared.body.Shape.{Shape}
use Rattle.meaning.specs.File.{file_at}
use Rattle.meaning.specs.Rewriting.{shape_in}
use Rattle.growth.proofs.shape.Goals as goal

pub returns : goal.returns
unfolding shape_in file_at
returns c =
    let charts = c.args.n.charts in
    ap₂ (λ (t j : ℕ). let s : Shape = record { charts = charts; transitions = t; slaves = 0; nodes = j; edition = 1 } in
    s) c.in_all-transitions.ensures
    c.nodes-nodes.ensures

pub nodes-nodes-requires : goal.nodes-nodes-requires
nodes-nodes-requires c = c.requires.0
