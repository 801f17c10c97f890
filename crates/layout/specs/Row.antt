-- A row of a list: so many entries from a place on. The laws of a row that a loop fills are in Row/Laws.antt.
use Rattle.std.specs.Prelude.{◌≡◌, List, ℕ, ◌+◌, ◌≤◌, ◌<◌, length, get_or}
pub mod Laws

-- m is l with f in the n entries from `at` on
pub record RowAt (at n : ℕ) (f : ℕ → ℕ) (l m : List ℕ) : Type 0 where
  pub in_row : (c : ℕ) → c < n → get_or m (at + c) 0 ≡ f c
  pub below : (k : ℕ) → k < at → get_or m k 0 ≡ get_or l k 0
  pub above : (k : ℕ) → at + n ≤ k → get_or m k 0 ≡ get_or l k 0
  pub long : length m ≡ length l
