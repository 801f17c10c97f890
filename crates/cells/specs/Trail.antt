-- A beginning of a choice, where it stands: in two lists, of masks and of small numbers. What stands there behind it,
-- which earlier tries have left, is no part of it.
use Rattle.std.specs.Prelude.{◌≡◌, List, ◌++◌, ℕ, ◌+◌, ◌-◌, ◌*◌, ◌/◌, ◌≤◌, length, get_or, set, replicate}
use Rattle.meaning.specs.Numbers.{most_charts}
use Rattle.meaning.specs.Calls.{made}

-- for each chart k what each chart is surely offered before k is settled, and what k needs and bars
abbrev pub width : ℕ
width = most_charts + 2

abbrev pub low_cell : ℕ → ℕ → ℕ
low_cell k c = width * k + c

abbrev pub needs_cell : ℕ → ℕ
needs_cell k = width * k + most_charts

abbrev pub bars_cell : ℕ → ℕ
bars_cell k = width * k + (most_charts + 1)

-- a row has two halves: where there are few charts, only the first is made anew
abbrev pub half : ℕ
half = most_charts / 2

-- how many masks the beginnings of N charts need: behind the last chart stands what each chart is offered once all are
-- settled. They stand chart by chart, so that fewer charts need fewer
abbrev pub trail_for : ℕ → ℕ
trail_for N = width * N + most_charts

module _ (w : List ℕ) where
  abbrev pub low_in : ℕ → ℕ → ℕ
  low_in k c = get_or w (low_cell k c) 0

  abbrev pub needed_in : ℕ → ℕ
  needed_in d = get_or w (needs_cell d) 0

  abbrev pub barred_in : ℕ → ℕ
  barred_in d = get_or w (bars_cell d) 0

  -- chart k needs n and bars r
  abbrev pub put_asked : ℕ → ℕ → ℕ → List ℕ
  put_asked k n r = set (set w (needs_cell k) n) (bars_cell k) r

-- three small numbers for each chart: its next state, 1 if it is active, and the place of its transition
abbrev pub steps : ℕ
steps = 3

abbrev pub next_cell : ℕ → ℕ
next_cell d = steps * d

abbrev pub awake_cell : ℕ → ℕ
awake_cell d = steps * d + 1

abbrev pub taken_cell : ℕ → ℕ
taken_cell d = steps * d + 2

abbrev pub moves_size : ℕ
moves_size = steps * most_charts

module _ (b : List ℕ) where
  abbrev pub next_in : ℕ → ℕ
  next_in d = get_or b (next_cell d) 0

  abbrev pub awake_in : ℕ → ℕ
  awake_in d = get_or b (awake_cell d) 0

  abbrev pub place_in : ℕ → ℕ
  place_in d = get_or b (taken_cell d) 0

  -- the small numbers at j of the charts below n, and x behind them
  abbrev pub column_in : ℕ → ℕ → ℕ → List ℕ
  column_in n j x = made n (λ d. get_or b (steps * d + j) 0) ++ replicate (most_charts - n) x

  -- chart k goes to x, z is 1 if it is active, and it takes the transition at t
  abbrev pub put_move : ℕ → ℕ → ℕ → ℕ → List ℕ
  put_move k x z t = set (set (set b (next_cell k) x) (awake_cell k) z) (taken_cell k) t

-- the room that is lent for it, if there are N charts
pub record Room (N : ℕ) (w b : List ℕ) : Type 0 where
  pub masks : trail_for N ≤ length w
  pub small : length b ≡ moves_size
