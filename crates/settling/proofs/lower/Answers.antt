-- `settling::lower` meets its contract: the second half is made of the same row as the first, which stays.
use mathlib.Core.Path.{◌≡◌, ◌∙◌, ap}
use mathlib.Core.List.{List}
use Prim.Native.Nat.{ℕ, ◌+◌, ◌-◌, ◌≤◌, ◌<◌}
use native.Mathlib.Decide.{dec_lt}
use native.Mathlib.Omega.{arith}
use Rattle.signals.specs.Mask.{◌∪◌, ◌∩◌}
use Rattle.layout.specs.Row.{RowAt}
use Rattle.meaning.specs.Numbers.{most_charts}
use Rattle.cells.specs.Table.{back_at}
use Rattle.cells.specs.Trail.{half, low_cell, low_in}
use Rattle.settling.specs.Trail.{Lowers}
use Rattle.settling.proofs.lower.Goals as goal

-- the half from `from` on of what each chart is offered, where chart k has the action a
abbrev Half : List ℕ → ℕ → ℕ → ℕ → List ℕ → List ℕ → Type 0
Half m a k from w w' =
    RowAt (low_cell (k + 1) from) half (λ c. low_in w k (from + c) ∪ a ∩ back_at m (from + c) k) w w'

module _ (m : List ℕ) (a N k : ℕ) {w w₁ : List ℕ} where
  first : Half m a k 0 w w₁ → (c : ℕ) → c < half → low_in w₁ (k + 1) c ≡ low_in w k c ∪ a ∩ back_at m c k
  first p c l =
      let e : 0 + c ≡ c = omega arith in
      let z : low_cell (k + 1) 0 + c ≡ low_cell (k + 1) c = omega arith in rw (z, e) at (p.in_row c l)

  few_lowered : N ≤ half → Half m a k 0 w w₁ → Lowers m a N k w w₁
  few_lowered few p =
      record {
        kept = record { long = p.long; at = λ i l. p.below i (omega arith) };
        rows = λ c l. first p c (omega arith);
      }

  all-lowered : {w₂ : List ℕ} → N ≤ most_charts → Half m a k 0 w w₁ → Half m a k half w₁ w₂ → Lowers m a N k w w₂
  all-lowered {w₂} few p q =
      record {
        kept =
            record { long = q.long ∙ p.long; at = λ i l. q.below i (omega arith) ∙ p.below i (omega arith) };
        rows = λ c l. go c l (dec_lt c half);
      }
    where
      go : (c : ℕ) → c < N → Dec (c < half) → low_in w₂ (k + 1) c ≡ low_in w k c ∪ a ∩ back_at m c k
      go c l (yes h) = q.below (low_cell (k + 1) c) (omega arith) ∙ first p c h
      go c l (no h) =
          let e : half + (c - half) ≡ c = omega arith in
          let z : low_cell (k + 1) half + (c - half) ≡ low_cell (k + 1) c = omega arith in
          rw (z, e) at (q.in_row (c - half) (omega arith))
          ∙ ap (λ (x : ℕ). x ∪ a ∩ back_at m c k) (p.below (low_cell k c) (omega arith))

pub lower_half-requires : goal.lower_half-requires
lower_half-requires c = (c.requires.0, c.requires.1, c.requires.2, omega arith)

pub returns-then-charts-le-HALF : goal.returns-then-charts-le-HALF
returns-then-charts-le-HALF c =
    let a = c.args in
    few_lowered a.masks.now a.action a.charts a.k c.if-charts-le-HALF.true c.lower_half.ensures

pub lower_half-requires-2 : goal.lower_half-requires-2
lower_half-requires-2 c =
    (c.requires.0, rw c.lower_half.ensures.long c.requires.1, c.requires.2, omega arith)

pub returns : goal.returns
returns c =
    let a = c.args in
    all-lowered a.masks.now a.action a.charts a.k c.requires.3 c.lower_half.ensures
    c.lower_half-2.ensures
