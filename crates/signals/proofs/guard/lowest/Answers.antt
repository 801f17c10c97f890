-- `guard::lowest` meets its contract: 64 signals are halved six times, so one is left.
use mathlib.Core.Path.{◌≡◌, refl, sym, ap, ◌∙◌}
use Prim.Native.Nat.{ℕ, ◌<◌}
use native.Mathlib.Omega.{arith}
use Rattle.signals.specs.Mask.{bit}
use Rattle.signals.specs.Guard.{lowest_from, lowest}
use Rattle.signals.specs.Halving.Laws.{all_left, led}
use Rattle.signals.proofs.guard.lowest.Goals as goal

empty : 64 ≡ lowest 0
unfolding lowest_from bit
empty = refl

some : (s : ℕ) → (s ≡ 0 → ⊥) → 0 < s
some s h = omega arith

pub returns-then-s-eq0 : goal.returns-then-s-eq0
returns-then-s-eq0 c = empty ∙ ap lowest (sym c.if-s-eq0.true)

pub returns : goal.returns
returns c =
    let s = c.args.s in
    led s c.halve.result (let h = c.halve.ensures.0 in omega arith)
    (c.halve.ensures.1 s
    (c.halve-of_2.ensures.1 s
    (c.halve-of_4.ensures.1 s
    (c.halve-of_8.ensures.1 s
    (c.halve-of_16.ensures.1 s
    (c.halve-of_32.ensures.1 s (all_left s c.ranges.s.fits (some s c.if-s-eq0.false))))))))
