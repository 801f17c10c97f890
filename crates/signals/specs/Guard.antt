-- The test of a guard (RULES 5.6), over two sets. Its answer is the code's own enum `Tested`. Laws are in
-- Guard/Laws.antt.
use Rattle.std.specs.Prelude.{◌≡◌, Bool, true, false, cond, ℕ, zero, suc, ◌<◌}
use Rattle.signals.specs.Mask.{◌∩◌, ◌∖◌, bit, within, apart, Within, Apart}
use Rattle.signals.specs.declared.guard.Tested.{Tested}
use Rattle.signals.specs.declared.guard.Tested.TheVariants.{Met, Absent, Present}
pub mod Laws

-- the lowest signal of a set, of the k signals from n on; where none is there, the first behind them
unfoldable pub lowest_from : ℕ → ℕ → ℕ → ℕ
lowest_from zero n s = n
lowest_from (suc k) n s = cond (bit s n) n (lowest_from k (suc n) s)

-- the lowest signal of a set (RULES 1.2: they are 0 to 63); of the empty set, 64
abbrev pub lowest : ℕ → ℕ
lowest s = lowest_from 64 0 s

-- What testing a guard shows (RULES 5.6): it is met; or one signal says why not, the lowest needed one that is missing,
-- and if none is missing, the lowest barred one that is there. Needed signals are looked up in i and barred ones in j:
-- the same set twice, except where a search has only bounds on it.
unfoldable pub guard : ℕ → ℕ → ℕ → ℕ → Tested
guard needed barred i j =
    cond (within needed i) (cond (apart barred j) Met (Present (lowest (barred ∩ j)))) (Absent (lowest (needed ∖ i)))

abbrev pub is_met : Tested → Bool
is_met Met = true
is_met (Absent n) = false
is_met (Present n) = false

-- the answer in numbers (RULES 13.2): 0 met, 1 a needed signal is absent, 2 a barred one is present
abbrev pub case_of : Tested → ℕ
case_of Met = 0
case_of (Absent n) = 1
case_of (Present n) = 2

-- and the signal that it names; 0 where the guard is met
abbrev pub signal_of : Tested → ℕ
signal_of Met = 0
signal_of (Absent n) = n
signal_of (Present n) = n

-- ── the answer in words (RULES 13.3) ──

-- signal n is needed and not in i, and no lower one is
pub record LowestAbsent (needed i n : ℕ) : Type 0 where
  pub wanted : bit needed n ≡ true
  pub missing : bit i n ≡ false
  pub none-lower : (k : ℕ) → k < n → bit needed k ≡ true → bit i k ≡ true

-- signal n is barred and in j, and no lower one is
pub record LowestPresent (barred j n : ℕ) : Type 0 where
  pub unwanted : bit barred n ≡ true
  pub there : bit j n ≡ true
  pub none-lower : (k : ℕ) → k < n → bit barred k ≡ true → bit j k ≡ false

-- what each answer says; a barred signal is named only where no needed one is missing
abbrev pub Shows : ℕ → ℕ → ℕ → ℕ → Tested → Type 0
Shows needed barred i j Met = Within needed i × Apart barred j
Shows needed barred i j (Absent n) = LowestAbsent needed i n
Shows needed barred i j (Present n) = Within needed i × LowestPresent barred j n
