use mathlib.Core.Path.{◌≡◌}
use Prim.Native.Nat.{◌+◌, ◌*◌}
use native.Mathlib.Omega.{arith}
use Rattle.wiring.specs.Reach.{full}
use Rattle.candidates.specs.Candidates.Laws.{puts_none, puts_more, puts_few, puts_done, puts_from}
use Rattle.candidates.proofs.puts_of.Goals as goal

pub loop-p-init : goal.loop-p-init
unfolding full
loop-p-init c = (omega arith, puts_none _ _ _ _)

pub with_one-puts-requires : goal.with_one-puts-requires
with_one-puts-requires c =
    let few = puts_few _ _ _ _ _ _ c.loop-p.invariant.1 in
    (omega (arith, c.requires.0, c.requires.1, c.loop-p.invariant.0), omega (arith, few))

pub loop-p-preserved : goal.loop-p-preserved
loop-p-preserved c =
    let a = c.args in
    let e : c.loop-p.at ≡ 24 * a.n.charts + 28 * a.start + 28 * (0 + c.loop-p.p) = omega (arith, c.loop-p.invariant.0) in (
      omega (arith, c.loop-p.invariant.0),
      puts_more _ _ _ _ _ _ _ c.loop-p.invariant.1 (omega arith) (rw e at c.with_one-puts.ensures),
    )

pub returns : goal.returns
returns c =
    let a = c.args in
    puts_from a.n _ a.read a.start _ _ _ (puts_done _ _ _ _ _ _ c.loop-p.invariant.1 c.loop-p.auto.p-end (omega arith))
