-- Nothing is lacking exactly where the guard is met (`nothing_is`), and naming a signal of what is gives the guard's
-- test (`named_is`).
use Rattle.std.specs.Prelude.{◌≡◌, refl, Bool, true, false, ◌&&◌, cond, ℕ}
use Rattle.signals.specs.Mask.{◌∩◌, ◌∖◌, within, apart}
use Rattle.signals.specs.Guard.{lowest, guard}
use Rattle.signals.specs.Look.{lack, is_nothing, named}
use Rattle.signals.specs.declared.guard.Lack.TheVariants.{Nothing, Missing, There}
use Rattle.signals.specs.declared.guard.Tested.TheVariants.{Met, Absent, Present}

pub nothing_is : (needed barred i j : ℕ) → is_nothing (lack needed barred i j) ≡ (within needed i && apart barred j)
unfolding lack
nothing_is needed barred i j = go (within needed i) (apart barred j)
  where
    go : (a b : Bool) → is_nothing (cond a (cond b Nothing (There (barred ∩ j))) (Missing (needed ∖ i))) ≡ (a && b)
    go true true = refl
    go true false = refl
    go false b = refl

pub named_is : (needed barred i j : ℕ) → named (lack needed barred i j) ≡ guard needed barred i j
unfolding lack guard
named_is needed barred i j = go (within needed i) (apart barred j)
  where
    go : (a b : Bool) → named (cond a (cond b Nothing (There (barred ∩ j))) (Missing (needed ∖ i)))
        ≡ cond a (cond b Met (Present (lowest (barred ∩ j)))) (Absent (lowest (needed ∖ i)))
    go true true = refl
    go true false = refl
    go false b = refl
