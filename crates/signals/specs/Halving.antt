-- What is known of a set while its lowest signal is looked for by halves.
use Rattle.std.specs.Prelude.{◌≡◌, false, ℕ, ◌/◌, ◌%◌, ◌^◌, ◌<◌}
use Rattle.signals.specs.Mask.{bit}
use Rattle.signals.specs.declared.guard.Rest.{Rest}
pub mod Laws

-- r is what is left of s; nothing passed is in s, and something of the next w signals is
abbrev pub Leads : ℕ → ℕ → Rest → Type 0
Leads s w r =
    (r.left ≡ s / 2 ^ r.passed) × ((r.left % 2 ^ w ≡ 0 → ⊥) × ((j : ℕ) → j < r.passed → bit s j ≡ false))
