use mathlib.Core.Path.{ap}
use native.Mathlib.Omega.{arith}
use lib.ListN.{length}
use Rattle.counting.specs.Counting.Laws.{shuts_none, shuts_next, shuts_done}
use Rattle.counting.proofs.shut.Goals as goal

pub loop-d-init : goal.loop-d-init
loop-d-init c =
    let a = c.args in (
      ap length c.requires.3,
      rw c.requires.3
          (shuts_none a.charts a.config.now a.masters.now a.states.now a.counts.now c.requires.2),
    )

pub shut_one-requires : goal.shut_one-requires
shut_one-requires c =
    let r = c.requires.0 in (
      record {
        masters = omega (arith, r.masters);
        states = omega (arith, r.states);
        counts = omega (arith, r.counts);
      },
      c.requires.1,
      c.requires.2,
      c.loop-d.invariant.0,
    )

pub loop-d-preserved : goal.loop-d-preserved
loop-d-preserved c =
    let a = c.args in (
      c.shut_one.ensures.0,
      shuts_next a.charts a.config.now a.masters.now a.states.now a.counts.now c.loop-d.d c.loop-d.shut
          c.shut_one.new.shut c.loop-d.invariant.1 c.shut_one.ensures.1,
    )

pub returns : goal.returns
returns c =
    let a = c.args in
    shuts_done a.charts a.config.now a.masters.now a.states.now a.counts.now c.loop-d.d c.loop-d.shut
    c.loop-d.auto.d-end (omega arith) c.loop-d.invariant.1
