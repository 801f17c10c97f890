-- `entered` meets its contract.
use mathlib.Core.Path.{refl}
use native.Mathlib.Omega.{arith}
use Rattle.roster.proofs.entered.Goals as goal

pub returns : goal.returns
returns c =
    record {
      listed = c.with_name-l.result;
      lists = c.with_name-l.ensures;
      is_mask = refl;
      is_bad = refl;
      is_charts = c.counted.ensures;
      is_transitions = c.counted-2.ensures;
      is_crowded = refl;
      is_refused = refl;
      is_places = c.placed-places.ensures;
      is_next = refl;
    }

pub with_name-l-requires : goal.with_name-l-requires
with_name-l-requires c = omega arith
