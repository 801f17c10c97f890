-- Counts that are cut at 1,000: none and one (`cap-none`, `cap-one`), one more (`cap_suc`), and a sum (`cap_plus`).
use Rattle.std.specs.Prelude.{◌≡◌, ℕ, ◌+◌, ◌≤◌, ◌<◌}
use Rattle.std.proofs.Common.{sym, ap, ap₂, ◌∙◌, arith}
use Rattle.std.proofs.Math.Decide.{dec_lt}
use Rattle.tokens.specs.Tokens.{cap}
use Rattle.tokens.specs.Laws.Steps.{cap-below, cap_above}

-- a sum of two numbers that are cut is cut as the sum is
pub cap_plus : (a b : ℕ) → cap (cap a + cap b) ≡ cap (a + b)
cap_plus a b = go (dec_lt a 1000) (dec_lt b 1000)
  where
    large : (k l : ℕ) → 1000 ≤ k → 1000 ≤ l → cap k ≡ cap l
    large k l h i = sym (cap_above k h) ∙ cap_above l i

    go : Dec (a < 1000) → Dec (b < 1000) → cap (cap a + cap b) ≡ cap (a + b)
    go (yes l) (yes m) = ap₂ (λ x y. cap (x + y)) (sym (cap-below a l)) (sym (cap-below b m))
    go (yes l) (no m) =
        large (cap a + cap b) (a + b) (omega (arith, cap_above b (omega arith))) (omega arith)
    go (no l) m = large (cap a + cap b) (a + b) (omega (arith, cap_above a (omega arith))) (omega arith)

pub cap-one : cap 1 ≡ 1
cap-one = sym (cap-below 1 (omega arith))

pub cap-none : cap 0 ≡ 0
cap-none = sym (cap-below 0 (omega arith))

pub cap_suc : (a : ℕ) → cap (cap a + 1) ≡ cap (a + 1)
cap_suc a = ap (λ k. cap (cap a + k)) (sym cap-one) ∙ cap_plus a 1
