-- Tests and sums over the numbers below a limit, as a scan of records takes them. Laws are in Sums/Laws.antt.
use Rattle.std.specs.Prelude.{Bool, true, false, ◌||◌, ℕ, zero, suc, ◌+◌}
pub mod Laws

-- p holds of some number below n
unfoldable pub any_up_to : ℕ → (ℕ → Bool) → Bool
any_up_to zero p = false
any_up_to (suc n) p = any_up_to n p || p n

-- f 0 + f 1 + .. + f (n - 1)
unfoldable pub tally : ℕ → (ℕ → ℕ) → ℕ
tally zero f = 0
tally (suc n) f = f n + tally n f

abbrev pub one : Bool → ℕ
one true = 1
one false = 0
