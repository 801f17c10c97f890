-- `too_deep` meets its contract: the table has the last node, which is the whole.
use mathlib.Core.Path.{ap}
use Prim.Native.Nat.{◌-◌}
use native.Mathlib.Omega.{arith}
use lib.Dec.{ltb}
use Rattle.reading.specs.Numbers.{most_depth}
use Rattle.meaning.specs.File.{file_at}
use Rattle.depths.proofs.too_deep.Goals as goal

pub returns : goal.returns
unfolding file_at
returns c =
    let n = c.args.n in
    let z = c.requires.0 in
    ap (ltb most_depth) (c.depths-deep.ensures.at (n.nodes - 1) (omega arith))
