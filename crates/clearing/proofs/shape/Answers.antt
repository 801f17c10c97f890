-- `shape` meets its contract: only the number of transitions changes.
use mathlib.Core.Path.{ap}
use Prim.Native.Nat.{ℕ}
use Rattle.layout.specs.declared.body.Shape.{Shape}
use Rattle.meaning.specs.File.{file_at}
use Rattle.meaning.specs.Rewriting.{shape_in}
use Rattle.clearing.proofs.shape.Goals as goal

pub returns : goal.returns
unfolding shape_in file_at
returns c =
    let n = c.args.n in
    ap
    (λ (t : ℕ). let s : Shape = record {
      charts = n.charts;
      transitions = t;
      slaves = n.slaves;
      nodes = n.nodes;
      edition = 1;
    } in s)
    c.in_all-transitions.ensures
