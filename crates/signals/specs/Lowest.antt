-- The lowest signal that is not in a set.
use Rattle.std.specs.Prelude.{◌≡◌, true, false, ℕ, ◌<◌, ◌-◌, ◌^◌, Option, Some, None}
use Rattle.signals.specs.Mask.{bit}

-- n is not in s and below 64, and every signal below n is in it
abbrev pub IsLowestFree : ℕ → Option ℕ → Type 0
IsLowestFree s (Some n) = (n < 64) × ((bit s n ≡ false) × ((k : ℕ) → k < n → bit s k ≡ true))
IsLowestFree s None = s ≡ 2 ^ 64 - 1
