-- `step::try_in` meets its contract: the tables are wired, so what is found answers the step. Assumes nothing.
use native.Mathlib.Omega.{arith}
use borrow.Author.Rules.{rules}
use Rattle.plan.specs.ByNode.Laws.{blank-new}
use Rattle.stepping.proofs.step.try_in.Goals as goal

pub wired-down-requires : goal.wired-down-requires
wired-down-requires g c = (search rules, omega (arith, c.requires.2), blank-new _, search rules)

pub try_wired-requires : goal.try_wired-requires
try_wired-requires g c = (
  c.requires.0,
  c.requires.1,
  record {
    wired = c.wired-down.ensures;
    tabled = record { masks = omega (arith, c.requires.2, c.wired-down.auto.masks); small = search rules };
  },
)

pub returns : goal.returns
returns g c = c.try_wired.ensures.0
