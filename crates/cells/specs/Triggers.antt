-- What triggers charts that may stay, where it stands: all transitions from a chart's present state, also those that
-- are no candidates.
use Rattle.std.specs.Prelude.{◌≡◌, List, ◌≢◌, ℕ, ◌+◌, ◌*◌, ◌≤◌, ◌<◌, length, get_or, set}
use Rattle.layout.specs.declared.record.Transition.{Transition}
use Rattle.meaning.specs.Numbers.{most_charts, most_from_state}

-- for each chart what its triggers need and then what they bar
abbrev pub triggers : ℕ
triggers = 2 * most_from_state

abbrev pub trigger_needed_cell : ℕ → ℕ → ℕ
trigger_needed_cell c v = triggers * c + v

abbrev pub trigger_barred_cell : ℕ → ℕ → ℕ
trigger_barred_cell c v = triggers * c + (most_from_state + v)

-- how many masks the triggers of N charts have
abbrev pub triggers_for : ℕ → ℕ
triggers_for N = triggers * N

module _ (g : List ℕ) where
  abbrev pub trigger_needed : ℕ → ℕ → ℕ
  trigger_needed c v = get_or g (trigger_needed_cell c v) 0

  abbrev pub trigger_barred : ℕ → ℕ → ℕ
  trigger_barred c v = get_or g (trigger_barred_cell c v) 0

  -- transition t is trigger v of chart c
  unfoldable pub put_trigger : ℕ → ℕ → Transition → List ℕ
  put_trigger c v t = set (set g (trigger_needed_cell c v) t.needed) (trigger_barred_cell c v) t.barred

-- what a search is told: for each chart 0 if it cannot stay, else how many triggers it has and 1; behind them 0 if none
-- can
abbrev pub stays_size : ℕ
stays_size = most_charts + 1

module _ (y : List ℕ) where
  abbrev pub told_at : ℕ → ℕ
  told_at c = get_or y c 0

  abbrev pub some_stay : ℕ
  some_stay = get_or y most_charts 0

-- the room that the triggers have; none is needed where no chart may stay
pub record Guards (g y : List ℕ) : Type 0 where
  pub masks : (c : ℕ) → c < most_charts → told_at y c ≢ 0 → triggers_for (c + 1) ≤ length g
  pub small : length y ≡ stays_size
  pub counts : (c : ℕ) → c < most_charts → told_at y c ≤ most_from_state + 1
  pub none-may : some_stay y ≡ 0 → (c : ℕ) → c < most_charts → told_at y c ≡ 0
