-- Where a search of the table of modes may start.
use Rattle.std.specs.Prelude.{◌≡◌, ℕ, ◌%◌, ◌≤◌, drop}
use Rattle.scan.specs.Table.{rows_of, numbers, table, lookup}

-- the rows from the place r on decide for the mode m
abbrev pub Starts : ℕ → ℕ → Type 0
Starts m r =
    (r % 3 ≡ 0) × ((r ≤ 507) × ((b : ℕ) → lookup (rows_of (drop r numbers)) m b ≡ lookup table m b))
