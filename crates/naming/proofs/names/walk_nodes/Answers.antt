use mathlib.Core.Path.{◌≡◌}
use native.Mathlib.Omega.{arith}
use Rattle.naming.proofs.names.walk_nodes.Goals as goal

pub returns : goal.returns
returns c = let e : c.loop-k.k ≡ c.args.n.nodes = omega arith in rw e at c.loop-k.invariant
