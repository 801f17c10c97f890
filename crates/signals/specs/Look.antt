-- What is lacking of a guard, as a set, before one signal of it is named.
use Rattle.std.specs.Prelude.{Bool, true, false, cond, ℕ}
use Rattle.signals.specs.Mask.{◌∩◌, ◌∖◌, within, apart}
use Rattle.signals.specs.Guard.{lowest}
use Rattle.signals.specs.declared.guard.Lack.{Lack}
use Rattle.signals.specs.declared.guard.Lack.TheVariants.{Nothing, Missing, There}
use Rattle.signals.specs.declared.guard.Tested.{Tested}
use Rattle.signals.specs.declared.guard.Tested.TheVariants.{Met, Absent, Present}
pub mod Laws

-- needed signals are looked up in i, and barred ones in j
unfoldable pub lack : ℕ → ℕ → ℕ → ℕ → Lack
lack needed barred i j =
    cond (within needed i) (cond (apart barred j) Nothing (There (barred ∩ j))) (Missing (needed ∖ i))

abbrev pub is_nothing : Lack → Bool
is_nothing Nothing = true
is_nothing (Missing s) = false
is_nothing (There s) = false

-- the signal that is to blame
abbrev pub named : Lack → Tested
named Nothing = Met
named (Missing s) = Absent (lowest s)
named (There s) = Present (lowest s)
