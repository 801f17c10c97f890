-- The tables that a search reads, by chart c, candidate v and chart d, and where each cell stands. A chart has at
-- most mostFromState candidates: the transitions that it may take now. The masks stand chart by chart, so that tables
-- for fewer charts are shorter and begin alike.
use Rattle.std.specs.Prelude.{List, ℕ, ◌+◌, ◌*◌, ◌≤◌, ◌<◌, ◌≡◌, length, get_or, set}
use Rattle.signals.specs.Mask.{◌∪◌, ◌∖◌}
use Rattle.layout.specs.declared.record.Transition.{Transition}
use Rattle.meaning.specs.Numbers.{most_charts, most_from_state}
pub mod Laws

-- ── where the masks stand ──

-- a block for each chart k: what each chart may still be offered by k and the charts after it; what each chart is
-- offered of k's action; what of it comes out of the whole; what k's candidates need, bar and put out
abbrev pub back_from : ℕ
back_from = most_charts

abbrev pub up_from : ℕ
up_from = back_from + most_charts

abbrev pub needed_from : ℕ
needed_from = up_from + 1

abbrev pub barred_from : ℕ
barred_from = needed_from + most_from_state

abbrev pub action_from : ℕ
action_from = barred_from + most_from_state

abbrev pub block : ℕ
block = action_from + most_from_state

abbrev pub ahead_cell : ℕ → ℕ → ℕ
ahead_cell k c = block * k + c

-- where chart d's row begins
abbrev pub back_row : ℕ → ℕ
back_row d = block * d + back_from

abbrev pub back_cell : ℕ → ℕ → ℕ
back_cell c d = back_row d + c

abbrev pub up_cell : ℕ → ℕ
up_cell d = block * d + up_from

abbrev pub needed_cell : ℕ → ℕ → ℕ
needed_cell c v = block * c + needed_from + v

abbrev pub barred_cell : ℕ → ℕ → ℕ
barred_cell c v = block * c + barred_from + v

abbrev pub action_cell : ℕ → ℕ → ℕ
action_cell c v = block * c + action_from + v

-- how many masks the tables of N charts have: behind the last chart's block nothing may be offered any more, which is a
-- row too
abbrev pub masks_for : ℕ → ℕ
masks_for N = block * N + most_charts

-- ── masks ──
module _ (m : List ℕ) where
  -- candidate v of chart c
  abbrev pub needed_at : ℕ → ℕ → ℕ
  needed_at c v = get_or m (needed_cell c v) 0

  abbrev pub barred_at : ℕ → ℕ → ℕ
  barred_at c v = get_or m (barred_cell c v) 0

  abbrev pub action_at : ℕ → ℕ → ℕ
  action_at c v = get_or m (action_cell c v) 0

  -- what chart c is offered of chart d's action
  abbrev pub back_at : ℕ → ℕ → ℕ
  back_at c d = get_or m (back_cell c d) 0

  -- what the charts from k on may still put in for chart c
  abbrev pub ahead_at : ℕ → ℕ → ℕ
  ahead_at k c = get_or m (ahead_cell k c) 0

  -- what of chart d's action comes out of the whole
  abbrev pub up_at : ℕ → ℕ
  up_at d = get_or m (up_cell d) 0

  -- candidate v of chart c is the transition
  unfoldable pub put_masks : ℕ → ℕ → Transition → List ℕ
  put_masks c v t =
      set (set (set m (needed_cell c v) t.needed) (barred_cell c v) t.barred) (action_cell c v) t.action

-- m has the wiring of m₀: what each chart is offered of each chart's action, and what comes out of the whole
pub record SameWiring (m₀ m : List ℕ) : Type 0 where
  pub backs : (c d : ℕ) → c < most_charts → d < most_charts → back_at m c d ≡ back_at m₀ c d
  pub ups : (d : ℕ) → d < most_charts → up_at m d ≡ up_at m₀ d

-- m has the candidates of m₀
pub record SameLists (m₀ m : List ℕ) : Type 0 where
  pub needed : (c v : ℕ) → c < most_charts → v < most_from_state → needed_at m c v ≡ needed_at m₀ c v
  pub barred : (c v : ℕ) → c < most_charts → v < most_from_state → barred_at m c v ≡ barred_at m₀ c v
  pub action : (c v : ℕ) → c < most_charts → v < most_from_state → action_at m c v ≡ action_at m₀ c v

-- a row has a mask for each chart: l has f's
abbrev pub Row : List ℕ → (ℕ → ℕ) → Type 0
Row l f = (c : ℕ) → c < most_charts → get_or l c 0 ≡ f c

-- the same of a row with an entry for each chart and no more
pub record InRow (l : List ℕ) (f : ℕ → ℕ) : Type 0 where
  pub long : length l ≡ most_charts
  pub each : Row l f

-- ── where the small numbers stand ──

-- where candidates lead; how many there are; the nearest slave's master and state; the present state; the places of
-- candidates
abbrev pub count_from : ℕ
count_from = most_charts * most_from_state

abbrev pub master_from : ℕ
master_from = count_from + most_charts

abbrev pub slave_state_from : ℕ
slave_state_from = master_from + most_charts

abbrev pub state_from : ℕ
state_from = slave_state_from + most_charts

abbrev pub place_from : ℕ
place_from = state_from + most_charts

abbrev pub to_cell : ℕ → ℕ → ℕ
to_cell c v = most_from_state * c + v

abbrev pub count_cell : ℕ → ℕ
count_cell c = count_from + c

abbrev pub master_cell : ℕ → ℕ
master_cell c = master_from + c

abbrev pub slave_state_cell : ℕ → ℕ
slave_state_cell c = slave_state_from + c

abbrev pub state_cell : ℕ → ℕ
state_cell c = state_from + c

abbrev pub place_cell : ℕ → ℕ → ℕ
place_cell c v = place_from + most_from_state * c + v

-- how many small numbers there are
abbrev pub small_size : ℕ
small_size = place_from + most_from_state * most_charts

-- ── small numbers ──
module _ (s : List ℕ) where
  -- where candidate v of chart c leads
  abbrev pub to_at : ℕ → ℕ → ℕ
  to_at c v = get_or s (to_cell c v) 0

  -- how many candidates chart c has
  abbrev pub count_at : ℕ → ℕ
  count_at c = get_or s (count_cell c) 0

  -- the master of chart c's nearest enclosing slave, mostCharts or more if there is none, and that slave's state
  abbrev pub master_at : ℕ → ℕ
  master_at c = get_or s (master_cell c) 0

  abbrev pub slave_state_at : ℕ → ℕ
  slave_state_at c = get_or s (slave_state_cell c) 0

  -- the present state of chart c
  abbrev pub state_at : ℕ → ℕ
  state_at c = get_or s (state_cell c) 0

  -- the place of candidate v in chart c's own list
  abbrev pub place_at : ℕ → ℕ → ℕ
  place_at c v = get_or s (place_cell c v) 0

  -- candidate v of chart c is the transition, at place p
  unfoldable pub put_small : ℕ → ℕ → ℕ → Transition → List ℕ
  put_small c v p t = set (set s (to_cell c v) t.to) (place_cell c v) p

  -- the master and the state of chart c's nearest enclosing slave are x and y
  abbrev pub put_nearest : ℕ → ℕ → ℕ → List ℕ
  put_nearest c x y = set (set s (master_cell c) x) (slave_state_cell c) y

-- what the charts from k on may put in for chart c comes from chart k or from one behind it
abbrev pub Covered : List ℕ → ℕ → ℕ → Type 0
Covered m k c = ahead_at m k c ∖ (ahead_at m (k + 1) c ∪ back_at m c k) ≡ 0

-- what a search over N charts asks of its tables
pub record Tables (N : ℕ) (m s : List ℕ) : Type 0 where
  pub masks : masks_for N ≤ length m
  pub small : length s ≡ small_size
  pub counts : (c : ℕ) → c < N → count_at s c ≤ most_from_state
  pub ahead : (k c : ℕ) → k < N → c < N → Covered m k c
