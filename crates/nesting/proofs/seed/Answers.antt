use mathlib.Core.Path.{◌≡◌}
use native.Mathlib.Omega.{arith}
use Rattle.meaning.specs.File.{file_at}
use Rattle.nesting.proofs.Records.{is_slave}
use Rattle.nesting.proofs.Near.{seeds_none, seeds_more}
use Rattle.nesting.proofs.seed.Goals as goal

pub loop-i-init : goal.loop-i-init
loop-i-init c = seeds_none _ c.requires.0.sound _

pub overflow_cast-near : goal.overflow_cast-near
overflow_cast-near c = omega (arith, c.requires.0.sized.slaves)

pub bounds-near-j : goal.bounds-near-j
unfolding file_at
bounds-near-j c =
    let p = c.requires in
    omega (
      arith,
      p.0.sized.nodes,
      p.1,
      (p.0.sound.node-there c.loop-i.i c.loop-i-test.true).0,
      (is_slave _ _ c.loop-i.i c.slave_at-slave.ensures).node,
    )

pub loop-i-preserved : goal.loop-i-preserved
unfolding file_at
loop-i-preserved c =
    let p = c.requires in
    seeds_more _ p.0.sound (is_slave _ _ _ c.slave_at-slave.ensures) c.loop-i-test.true
    (omega (arith, p.0.sized.nodes, p.1)) c.loop-i.invariant

pub returns : goal.returns
returns c =
    let e : c.loop-i.i ≡ c.args.n.slaves = omega arith in
    rw e at c.loop-i.invariant
