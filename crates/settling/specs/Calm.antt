-- The search with charts that may stay (RULES 5.7): what has to be in the tables besides, a chart that stays, the test
-- of settled charts that do, and what such a search finds (`hunts_both`). A staying chart asks no guard of the others:
-- it asks that none of its triggers holds, so `asks` does not cover it and it is tested by itself, on the bounds after
-- the next chart's action.
use Rattle.std.specs.Prelude.{◌≡◌, Bool, true, false, ◌&&◌, not, cond, List, [], ◌∷◌, ◌++◌, ℕ, zero, suc, ◌-◌, get_or}
use Rattle.std.specs.Prelude.{replicate}
use Rattle.signals.specs.Mask.{◌∪◌}
use Rattle.signals.specs.Guard.{guard, is_met}
use Rattle.meaning.specs.Numbers.{most_charts, no_place, stay_place}
use Rattle.meaning.specs.Meaning.{Set, same, Outcome}
use Rattle.meaning.specs.Sums.{any_up_to}
use Rattle.meaning.specs.Laws.Bools.{every}
use Rattle.cells.specs.Table.{ahead_at, count_at}
use Rattle.cells.specs.Triggers.{trigger_needed, trigger_barred, told_at}
use Rattle.settling.specs.Trail.{Trail, trail_in, Keeps}
use Rattle.meaning.specs.Rewriting.{in_turn}
use Rattle.settling.specs.Hunt.{wakes, taken, idled, rested, fine_at, over, found_in, Held}
pub mod Laws

-- ── what triggers a chart: all transitions from its present state, also those that are no candidates ──

module _ (g : List ℕ) where
  -- one of the first n triggers of chart c holds, needed signals being looked up in low and barred ones in high
  unfoldable pub trips : ℕ → ℕ → Set → Set → Bool
  trips c n low high = any_up_to n (λ v. is_met (guard (trigger_needed g c v) (trigger_barred g c v) low high))

-- y: what is told of each chart (crate cells, Triggers)
module _ (g y : List ℕ) where
  -- chart c's staying is still open
  unfoldable pub stays_at : ℕ → Bool
  stays_at c = not (same (told_at y c) 0)

  -- no trigger of chart c holds
  unfoldable pub calm : ℕ → Set → Set → Bool
  calm c low high = not (trips g c (told_at y c - 1) low high)

-- ── a chart that stays ──

-- chart k stays: it takes no transition, and is active
abbrev pub stayed : List ℕ → List ℕ → Trail → ℕ → Trail
stayed m s t k = idled m s 1 stay_place t k

module _ (m s g y : List ℕ) where
  -- Settled chart d, if it stays, is not surely triggered, charts from k on being left: no trigger has all that it
  -- needs in what the chart surely is offered, and nothing that it bars in what it may be
  unfoldable pub calm_at : Trail → ℕ → ℕ → Bool
  calm_at t k d = cond (same (get_or t.places d 0) stay_place)
      (calm g y d (get_or t.low d 0) (get_or t.low d 0 ∪ ahead_at m k d)) true

  -- every chart below k, where these are settled; and every chart up to k
  abbrev pub calm_all : Trail → ℕ → Bool
  calm_all t k = every k (calm_at t k)

  unfoldable pub quiet_at : Trail → ℕ → Bool
  quiet_at t k = calm_all t (suc k)

  -- n charts are left, k is the next; staying comes behind its candidates
  unfoldable pub hunts_both : ℕ → ℕ → Trail → List Outcome
  hunts_both zero k t = record {
    output = t.output;
    next = t.next ++ replicate (most_charts - k) 0;
    places = t.places ++ replicate (most_charts - k) no_place;
  } ∷ []
  hunts_both (suc n) k t =
      cond (wakes m s t k)
      (in_turn (count_at s k) (λ v. cond (fine_at m s (taken m s t k v) k && quiet_at (taken m s t k v) k)
      (hunts_both n (suc k) (taken m s t k v)) [])
      ++ cond (stays_at g y k)
      (cond (fine_at m s (stayed m s t k) k && quiet_at (stayed m s t k) k) (hunts_both n (suc k) (stayed m s t k)) [])
      [])
      (cond (fine_at m s (rested m s t k) k && quiet_at (rested m s t k) k) (hunts_both n (suc k) (rested m s t k)) [])

  -- the same of a beginning that is tested first
  unfoldable pub hunts_calm : ℕ → ℕ → Trail → List Outcome
  hunts_calm n k t = cond (calm_all t k) (hunts_both n k t) []

-- a search for the charts left, after what stands in f and g was found, leaves what it finds in f' and g'; the
-- beginning stays
pub record Hunted (m s gs y : List ℕ) (charts left o : ℕ) (w b f g w' b' f' g' : List ℕ) : Type 0 where
  pub found : found_in f' g'
      ≡ over (hunts_calm m s gs y left (charts - left) (trail_in w b (charts - left) o)) (found_in f g)
  pub kept : Keeps (charts - left) w b w' b'
  pub held : Held f' g'
