-- What the settled charts ask of the next chart's action. Where each of them could be met before, each still can
-- exactly if the action has what it lacks and nothing that it bars. So all of them together are a guard on the action,
-- made once for all candidates.
use Rattle.std.specs.Prelude.{◌≡◌, true, List, ℕ, ◌+◌, ◌<◌}
use Rattle.signals.specs.Mask.{◌∪◌, ◌∩◌, ◌∖◌}
use Rattle.meaning.specs.Rewriting.{union_up_to}
use Rattle.settling.specs.declared.Guard.{Guard}
use Rattle.cells.specs.Table.{Covered, back_at, ahead_at}
use Rattle.cells.specs.Trail.{low_in, needed_in, barred_in}
use Rattle.settling.specs.Hunt.{may}
pub mod Laws

abbrev pub Covers : List ℕ → ℕ → Type 0
Covers m k = (d : ℕ) → d < k → Covered m k d

module _ (m w : List ℕ) (k : ℕ) where
  -- each chart below k can still be met, charts from k on being left
  abbrev pub Passes : Type 0
  Passes = (d : ℕ) → d < k → may (needed_in w d) (barred_in w d) (low_in w k d) (ahead_at m k d) ≡ true

  -- what chart d below k asks to be in chart k's action: what it needs and no chart behind k can put in
  abbrev pub wants_in : ℕ → ℕ
  wants_in d = needed_in w d ∖ (low_in w k d ∪ ahead_at m (k + 1) d)

  -- what it asks not to be in it: what it bars, of what it gets of it
  abbrev pub bans_in : ℕ → ℕ
  bans_in d = barred_in w d ∩ back_at m d k

  unfoldable pub asks_of : Guard
  asks_of = record { needed = union_up_to k wants_in; barred = union_up_to k bans_in }
