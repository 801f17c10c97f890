-- `begun` meets its contract.
use mathlib.Core.Path.{refl}
use Rattle.meaning.specs.Each.{none}
use Rattle.reading.specs.Numbers.{named_charts}
use Rattle.reading.specs.Names.{any}
use Rattle.reading.specs.Meant.{gathered}
use Rattle.lists.specs.Laws.States.{so_far_none}
use Rattle.roster.specs.Roster.{cut}
use Rattle.roster.proofs.begun.Goals as goal

pub returns : goal.returns
unfolding cut any gathered
returns c = (
  refl,
  λ w.
      record {
        long = refl;
        so_far = so_far_none named_charts;
        is_charts = refl;
        is_transitions = refl;
        is_crowded = refl;
        is_refused = refl;
        stand = λ e. none;
      },
)
