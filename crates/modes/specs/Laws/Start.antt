-- The first row for a mode is where a search of the table may start.
use Rattle.std.specs.Prelude.{◌≡◌, refl, Bool, true, false, cond, ◌&&◌, List, [], ◌∷◌, ℕ, zero, suc, ◌+◌, ◌%◌, ◌≤◌, ◌<◌}
use Rattle.std.specs.Prelude.{eqb, length, drop, get_or}
use Rattle.std.proofs.Math.Path.{ap}
use Rattle.std.proofs.Common.{◌∙◌}
use native.Mathlib.Omega.{arith}
use Rattle.scan.specs.Table.{rows_of, numbers, table, lookup}
use Rattle.modes.specs.Start.{Starts}

-- the place of the first row for a mode among numbers, three for each row; their length if there is none
unfoldable pub first_row : List ℕ → ℕ → ℕ
first_row [] m = 0
first_row (a ∷ []) m = 0
first_row (a ∷ b ∷ []) m = 0
first_row (a ∷ b ∷ t ∷ l) m = cond (eqb a m) 0 (first_row l m + 3)

-- the same for n modes from m on
unfoldable pub first_rows : ℕ → ℕ → List ℕ
first_rows zero m = []
first_rows (suc n) m = first_row numbers m ∷ first_rows n (suc m)

pub first_rows_lem : (n m j : ℕ) → j < n → get_or (first_rows n m) j 0 ≡ first_row numbers (m + j)
unfolding first_rows
first_rows_lem zero m j h = absurd (omega arith)
first_rows_lem (suc n) m zero h = ap (first_row numbers) (let z : m ≡ m + 0 = omega arith in z)
first_rows_lem (suc n) m (suc j) h =
    first_rows_lem n (suc m) j (omega arith) ∙ ap (first_row numbers) (let z : suc m + j ≡ m + suc j = omega arith in z)

first-place : (l : List ℕ) (m : ℕ) → (first_row l m % 3 ≡ 0) × (first_row l m ≤ length l)
unfolding first_row
first-place [] m = (refl, omega arith)
first-place (a ∷ []) m = (refl, omega arith)
first-place (a ∷ b ∷ []) m = (refl, omega arith)
first-place (a ∷ b ∷ t ∷ l) m = go (eqb a m) (first-place l m)
  where
    go : (c : Bool) → (first_row l m % 3 ≡ 0) × (first_row l m ≤ length l)
        → (cond c 0 (first_row l m + 3) % 3 ≡ 0) × (cond c 0 (first_row l m + 3) ≤ length (a ∷ b ∷ t ∷ l))
    go true h = (refl, omega arith)
    go false h = (omega arith, omega arith)

first_decides : (l : List ℕ) (m b : ℕ) → lookup (rows_of (drop (first_row l m) l)) m b ≡ lookup (rows_of l) m b
unfolding first_row rows_of lookup
first_decides [] m b = refl
first_decides (a ∷ []) m b = refl
first_decides (a ∷ c ∷ []) m b = refl
first_decides (a ∷ c ∷ t ∷ l) m b = go (eqb a m) refl (first_decides l m b)
  where
    three : (n : ℕ) → drop (n + 3) (a ∷ c ∷ t ∷ l) ≡ drop n l
    three n = ap (λ k. drop k (a ∷ c ∷ t ∷ l)) (let z : n + 3 ≡ suc (suc (suc n)) = omega arith in z)

    go : (x : Bool) → eqb a m ≡ x → lookup (rows_of (drop (first_row l m) l)) m b ≡ lookup (rows_of l) m b
        → lookup (rows_of (drop (cond x 0 (first_row l m + 3)) (a ∷ c ∷ t ∷ l))) m b
        ≡ cond (eqb a m && eqb c b) t (lookup (rows_of l) m b)
    go true e h = refl
    go false e h = rw (three (first_row l m), e) h

-- every row decides; and those from the first one for the mode on
pub starts_all : (m : ℕ) → Starts m 0
starts_all m = (refl, (omega arith, λ b. unfold table in refl))

pub starts_first : (m r : ℕ) → r ≡ first_row numbers m → Starts m r
starts_first m r e =
    let p = first-place numbers m in
    let n : length numbers ≡ 507 = (unfold numbers in refl) in (
      ap (◌% 3) e ∙ p.0,
      (
        omega arith,
        λ b. ap (λ k. lookup (rows_of (drop k numbers)) m b) e ∙ first_decides numbers m b ∙ (unfold table in refl),
      ),
    )
