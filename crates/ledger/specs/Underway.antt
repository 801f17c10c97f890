-- The invariant of the posting's loop over the cases. No public contract uses it.
use Rattle.std.specs.Prelude.{◌≡◌, List, ◌++◌, ℕ, ◌+◌, ◌-◌, ◌*◌, ◌≤◌, length, take, drop}
use Rattle.desk.specs.declared.Case.{Case}
use Rattle.desk.specs.declared.Day.{Day}
use Rattle.desk.specs.Turns.{turn_cases, turn_rows}
pub mod Laws

-- where the posting stands after i of n cases, from cs and rs
pub record Underway (f : List ℕ) (d : Day) (charts n : ℕ) (cs : List Case) (rs : List ℕ)
    (i : ℕ) (cs' : List Case) (rs' : List ℕ) : Type 0 where
  pub within : i ≤ n
  pub cases_long : length cs' ≡ length cs
  pub rows_long : length rs' ≡ length rs
  pub cases_left : drop i cs' ≡ drop i cs
  pub cases_done : take i cs' ++ turn_cases f d (n - i) i (drop i cs) ≡ turn_cases f d n 0 cs
  pub rows_left : drop (i * (14 + charts)) rs' ≡ drop (i * (14 + charts)) rs
  pub rows_done : take (i * (14 + charts)) rs' ++ turn_rows f d charts (n - i) i (drop i cs)
      ≡ turn_rows f d charts n 0 cs
