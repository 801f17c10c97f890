-- `closed` meets its contract.
use mathlib.Core.Path.{refl, ap}
use mathlib.Core.Bool.{◌||◌}
use Rattle.roster.proofs.closed.Goals as goal

pub returns : goal.returns
returns c =
    record {
      is_bad = ap (c.args.r.bad ||◌) c.left_out.ensures;
      is_charts = refl;
      is_transitions = refl;
      is_crowded = refl;
      is_refused = refl;
      is_places = refl;
    }
