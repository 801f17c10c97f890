-- `search::keep` meets its contract: the next states and the places stand in their rows, and both bytes behind them are
-- 1.
use mathlib.Core.Path.{◌≡◌, ◌∙◌}
use mathlib.Core.Bool.{true}
use mathlib.Core.List.{List, ◌++◌}
use Prim.Native.Nat.{ℕ, ◌+◌, ◌-◌, ◌*◌, ◌<◌, ◌≤◌}
use native.Mathlib.Omega.{arith}
use lib.ListN.{length, get_or, set, replicate, length-set}
use lib.Seq.{get_or-set_same, get_or-set_other}
use Rattle.meaning.specs.Numbers.{most_charts, no_place}
use Rattle.meaning.specs.Meaning.{same}
use Rattle.meaning.specs.Calls.{made}
use Rattle.meaning.specs.Calls.Laws.{made_cong}
use Rattle.cells.specs.Trail.{steps, next_in, place_in, column_in}
use Rattle.settling.specs.Trail.Laws.{length_filled, column_next, made_list}
use Rattle.settling.specs.Hunt.{places_cell, has_cell, agree_cell, found_size, outcome_in, first_found, found_in, Held}
use Rattle.settling.specs.Hunt.{BytesPut}
use Rattle.search.proofs.keep.Goals as goal

-- f was lent; f₁ has the next states, f₂ the places too
module _ (f f₁ f₂ g b : List ℕ) (N o : ℕ) (few : N ≤ most_charts) (held : Held f g)
    (h₁ : BytesPut 0 (column_in b N 0 0) f f₁) (h₂ : BytesPut places_cell (column_in b N 2 no_place) f₁ f₂) where
  abbrev f₃ : List ℕ
  f₃ = set (set f₂ has_cell 1) agree_cell 1

  size : length f₂ ≡ found_size
  size = h₂.long ∙ h₁.long ∙ held.bytes

  pub keeps-held : Held f₃ (set g 0 o)
  keeps-held = record {
    bytes = length-set (set f₂ has_cell 1) agree_cell 1 ∙ length-set f₂ has_cell 1 ∙ size;
    output = length-set g 0 o ∙ held.output;
  }

  -- what stands before the two bytes
  before : (i : ℕ) → i < has_cell → get_or f₃ i 0 ≡ get_or f₂ i 0
  before i l = get_or-set_other (set f₂ has_cell 1) agree_cell i 1 0 (λ z. omega arith)
      ∙ get_or-set_other f₂ has_cell i 1 0 (λ z. omega arith)

  has-is : same (get_or f₃ has_cell 0) 1 ≡ true
  unfolding same
  has-is = let l : has_cell < length f₂ = omega (arith, size) in
      rw (get_or-set_other (set f₂ has_cell 1) agree_cell has_cell 1 0 (λ z. omega arith), get_or-set_same f₂ has_cell 1 0 l)

  agree_is : same (get_or f₃ agree_cell 0) 1 ≡ true
  unfolding same
  agree_is = let l : agree_cell < length (set f₂ has_cell 1) = omega (arith, size, length-set f₂ has_cell 1) in
      rw (get_or-set_same (set f₂ has_cell 1) agree_cell 1 0 l)

  next_is : made most_charts (λ c. get_or f₃ (0 + c) 0) ≡ made N (next_in b) ++ replicate (most_charts - N) 0
  next_is =
      made_cong most_charts (λ c. get_or f₃ (0 + c) 0) (λ c. get_or (column_in b N 0 0) c 0)
      (λ c l. before (0 + c) (omega arith) ∙ h₂.below (0 + c) (omega arith) ∙ h₁.in_row c l)
      ∙ made_list most_charts (column_in b N 0 0) (length_filled N (λ d. get_or b (steps * d + 0) 0) 0 few)
      ∙ column_next b N 0

  places_are : made most_charts (λ c. get_or f₃ (places_cell + c) 0) ≡ column_in b N 2 no_place
  places_are =
      made_cong most_charts (λ c. get_or f₃ (places_cell + c) 0) (λ c. get_or (column_in b N 2 no_place) c 0)
      (λ c l. before (places_cell + c) (omega arith) ∙ h₂.in_row c l)
      ∙ made_list most_charts (column_in b N 2 no_place) (length_filled N (place_in b) no_place few)

  pub keeps-first : found_in f₃ (set g 0 o) ≡ first_found (outcome_in b N o)
  keeps-first = let l : 0 < length g = omega (arith, held.output) in
      rw (has-is, agree_is, next_is, places_are, get_or-set_same g 0 o 0 l)

pub returns : goal.returns
returns c =
    let a = c.args in (
      keeps-held _ _ _ _ a.moves.now a.charts _ c.requires.1 c.requires.0 c.put_column.ensures
          c.put_column-2.ensures,
      keeps-first _ _ _ _ a.moves.now a.charts _ c.requires.1 c.requires.0 c.put_column.ensures
          c.put_column-2.ensures,
    )

pub put_column-requires : goal.put_column-requires
put_column-requires c = (c.requires.0.bytes, omega arith, c.requires.1, omega arith)

pub put_column-requires-2 : goal.put_column-requires-2
put_column-requires-2 c =
    (c.put_column.ensures.long ∙ c.requires.0.bytes, omega arith, c.requires.1, omega arith)
