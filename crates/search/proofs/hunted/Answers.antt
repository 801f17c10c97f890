-- `search::hunted` meets its contract: what each chart is surely offered is put in front, no chart is settled, and
-- nothing was found yet.
use mathlib.Core.Path.{◌≡◌, refl, ◌∙◌}
use mathlib.Core.List.{List}
use Prim.Native.Nat.{ℕ, ◌+◌, ◌-◌, ◌<◌}
use native.Mathlib.Omega.{arith}
use borrow.Author.Rules.{rules}
use lib.ListN.{length, get_or, replicate, get_or-replicate}
use Rattle.meaning.specs.Numbers.{most_charts, no_place}
use Rattle.meaning.specs.Meaning.{same}
use Rattle.meaning.specs.Calls.{made}
use Rattle.meaning.specs.Calls.Laws.{made_cong}
use Rattle.settling.specs.declared.Found.{Found}
use Rattle.layout.specs.Row.{RowAt}
use Rattle.cells.specs.Trail.{low_cell, low_in, moves_size, place_in, column_in}
use Rattle.settling.specs.Trail.{beginning, trail_in}
use Rattle.settling.specs.Trail.Laws.{filled_behind, begun}
use Rattle.settling.specs.Hunt.{over, nothing, places_cell, has_cell, agree_cell, found_size, found_in, Held, BytesPut}
use Rattle.settling.specs.Calm.{calm_at, hunts_both, hunts_calm}
use Rattle.settling.specs.Calm.Laws.{every-none}
use Rattle.search.proofs.hunted.Goals as goal
use Rattle.search.proofs.hunted.Goals.{Start}

-- a search that begins with all charts: none is settled, so none is triggered
all : (m s gs y w b low : List ℕ) (charts : ℕ) (f : Found) → trail_in w b 0 0 ≡ beginning low → f ≡ nothing →
    over (hunts_calm m s gs y charts (charts - charts) (trail_in w b (charts - charts) 0)) f
    ≡ over (hunts_both m s gs y charts 0 (beginning low)) nothing
unfolding hunts_calm
all m s gs y w b low charts f e q = let z : charts - charts ≡ 0 = omega arith in
    rw (z, e, q, every-none (calm_at m s gs y (beginning low) 0))

-- nothing was found: zeros, but for the places, of no chart
module _ (b f : List ℕ) (h : BytesPut most_charts (column_in b 0 2 no_place) (replicate found_size 0) f) where
  pub begun-held : Held f (replicate 1 0)
  begun-held = record { bytes = h.long; output = refl }

  pub begun-nothing : found_in f (replicate 1 0) ≡ nothing
  unfolding same made
  begun-nothing =
      rw (
        h.above has_cell (omega arith),
        h.above agree_cell (omega arith),
        made_cong most_charts (λ c. get_or f (0 + c) 0) (λ c. 0)
            (λ c l. h.below (0 + c) (omega arith) ∙ get_or-replicate found_size (0 + c) 0 0 (omega arith)),
        made_cong most_charts (λ c. get_or f (places_cell + c) 0) (λ c. no_place)
            (λ c l. h.in_row c l ∙ filled_behind 0 (place_in b) no_place c (omega arith) l),
      )

offered : (g : _) (s : Start g) → length s.args.low ≡ most_charts
offered g s = search rules

-- what each chart is surely offered stands in front
first-row : (low w w' : List ℕ) → length low ≡ most_charts
    → RowAt (low_cell 0 0) (length low) (λ c. get_or low c 0) w w' → (c : ℕ) → c < most_charts → low_in w' 0 c ≡ get_or low c 0
first-row low w w' e h c l = h.in_row c (omega (arith, e))

pub put_row-requires : goal.put_row-requires
put_row-requires g c =
    (omega (arith, c.requires.3), omega arith, omega (arith, offered g (goal.at.put_row-requires g c).Start))

pub hunt-requires : goal.hunt-requires
hunt-requires g c = (
  c.requires.0,
  record { masks = omega (arith, c.put_row.ensures.long, c.requires.3); small = refl },
  begun-held (replicate moves_size 0) _ c.put_column.ensures,
  c.requires.1,
  omega arith,
  c.requires.2,
  λ d l. absurd (omega arith),
)

pub returns : goal.returns
returns g c =
    let n = offered g (goal.at.returns g c).Start in
    c.found_in.ensures ∙ c.hunt.ensures.found
    ∙ all c.args.masks.now c.args.small.now c.args.guards.now c.args.stays.now _ _ c.args.low
    c.args.charts _ (begun _ _ c.args.low n (first-row c.args.low _ _ n c.put_row.ensures))
    (begun-nothing (replicate moves_size 0) _ c.put_column.ensures)
