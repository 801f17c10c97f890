-- `step::counted` meets its contract: the tables have the rows that the count asks for, and no open choice goes to a
-- state that is shut.
use mathlib.Core.Path.{◌∙◌}
use native.Mathlib.Omega.{arith}
use Rattle.counting.specs.Counting.{Countable}
use Rattle.stepping.specs.Step.Laws.{configured, countable, shut_is}
use Rattle.stepping.proofs.step.counted.Goals as goal
use Rattle.stepping.proofs.step.counted.Goals.{After-slave_states-states}

-- the rows, from where both are read
rows : (c : After-slave_states-states) →
    Countable c.args.n c.args.body.now c.args.config.now c.masters-masters.result.now
    c.slave_states-states.result.now
rows c =
    countable _ _ _ c.requires.0 c.requires.1 c.args.small.now _ _ c.requires.2 c.masters-masters.ensures
    c.slave_states-states.ensures

pub open_choices-open_choices-requires : goal.open_choices-open_choices-requires
open_choices-open_choices-requires c =
    (rows (goal.at.open_choices-open_choices-requires c).After-slave_states-states, omega (arith, c.requires.0.sized.charts, c.requires.4), c.requires.5)

pub shut-requires : goal.shut-requires
shut-requires c =
    let few = c.requires.0.sized.charts in
    let w = rows (goal.at.shut-requires c).After-slave_states-states in (
      record {
        masters = w.masters;
        states = w.states;
        counts = omega (arith, c.open_choices-open_choices.ensures.1.long, c.requires.4, few);
      },
      omega (arith, configured _ _ _ c.requires.0 c.requires.1),
      few,
      c.requires.6,
    )

pub returns : goal.returns
returns c =
    let w = rows (goal.at.returns c).After-slave_states-states in (
      c.open_choices-open_choices.ensures.0,
      shut_is _ _ _ c.requires.0 c.requires.1 _ _ c.open_choices-open_choices.new.counts
          c.shut.new.shut w
          c.open_choices-open_choices.ensures.1.right c.shut.ensures,
      c.open_choices-open_choices.ensures.1.long ∙ c.requires.4,
    )
