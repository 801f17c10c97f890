-- `settling::lower_half` meets its contract: the row that is put is what the charts are offered then.
use mathlib.Core.Path.{◌≡◌, ap, ◌∙◌}
use mathlib.Core.List.{List}
use Prim.Native.Nat.{ℕ, ◌+◌}
use native.Mathlib.Omega.{arith}
use lib.ListN.{length, get_or}
use Rattle.signals.specs.Mask.{◌∪◌, ◌∩◌}
use Rattle.meaning.specs.Calls.Laws.{length-made, get_or-made}
use Rattle.cells.specs.Table.{back_at}
use Rattle.cells.specs.Trail.{half, low_in}
use Rattle.settling.proofs.lower_half.Goals as goal
use Rattle.settling.proofs.lower_half.Goals.{After-lowered-row}

-- the row that is lent has a mask for each chart of the half
as_long : (r : After-lowered-row) → length r.lowered-row.result ≡ half
as_long r = rw r.lowered-row.ensures (length-made half _)

pub put_row-requires : goal.put_row-requires
put_row-requires c =
    (c.requires.1, omega (arith, c.requires.2), rw (as_long (goal.at.put_row-requires c).After-lowered-row) c.requires.3)

pub returns : goal.returns
returns c =
    let a = c.args in
    let p = rw (as_long (goal.at.returns c).After-lowered-row) at c.put_row.ensures in
    record {
      in_row =
          λ d l. p.in_row d l ∙ ap (λ (x : List ℕ). get_or x d 0) c.lowered-row.ensures
          ∙ get_or-made half (λ e. low_in a.trail.now a.k (a.from + e)
          ∪ a.action ∩ back_at a.masks.now (a.from + e) a.k) d l;
      below = p.below;
      above = p.above;
      long = p.long;
    }
