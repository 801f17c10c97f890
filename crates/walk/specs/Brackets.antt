-- The first bracket that closes what is not opened, in bytes: brackets of all three kinds are counted, and which kind
-- closes which is not asked.
use Rattle.std.specs.Prelude.{◌≡◌, Bool, ◌||◌, ◌&&◌, cond, List, [], ◌∷◌, ℕ, suc, ◌-◌, ◌≤◌, eqb, length, drop}

-- ( [ {
unfoldable pub opens? : ℕ → Bool
opens? b = eqb b 40 || (eqb b 91 || eqb b 123)

-- ) ] }
unfoldable pub closes? : ℕ → Bool
closes? b = eqb b 41 || (eqb b 93 || eqb b 125)

-- where n brackets are open: a byte closes one more, or so many are open behind it
unfoldable pub ends? : ℕ → ℕ → Bool
ends? n b = eqb n 0 && closes? b

unfoldable pub opened : ℕ → ℕ → ℕ
opened n b = cond (opens? b) (suc n) (cond (closes? b) (n - 1) n)

-- from that bracket on, where n are open before the bytes
unfoldable pub closing : ℕ → List ℕ → List ℕ
closing n [] = []
closing n (b ∷ w) = cond (ends? n b) (b ∷ w) (closing (opened n b) w)

-- r is the place of that bracket from a place on
pub record ClosesAt (w : List ℕ) (at r : ℕ) : Type 0 where
  pub within : r ≤ length w
  pub onward : at ≤ r
  pub is : drop r w ≡ closing 0 (drop at w)
