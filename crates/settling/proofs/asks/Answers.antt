use mathlib.Core.Path.{◌≡◌, refl, ap₂}
use Prim.Native.Nat.{ℕ, ◌+◌}
use native.Mathlib.Numerals.{add-one}
use native.Mathlib.Omega.{arith}
use borrow.Author.Rules.{rules}
use Rattle.signals.specs.Mask.{◌∪◌}
use Rattle.meaning.specs.Rewriting.{union_up_to}
use Rattle.settling.specs.Asks.{wants_in, bans_in, asks_of}
use Rattle.settling.proofs.asks.Goals as goal

-- x is joined of the numbers below n
join_more : (n : ℕ) (f : ℕ → ℕ) (x y : ℕ) → x ≡ union_up_to n f → y ≡ f n → x ∪ y ≡ union_up_to (n + 1) f
unfolding union_up_to
join_more n f x y p q = rw add-one (ap₂ ◌∪◌ p q)

pub loop-d-init : goal.loop-d-init
unfolding union_up_to
loop-d-init c = (refl, refl)

pub loop-d-preserved : goal.loop-d-preserved
loop-d-preserved c =
    let bars = c.barred.ensures in
    let rules = c.needed.ensures in
    let ahead = c.ahead.ensures in
    let low = c.low.ensures in
    let a = c.args in
    let m = a.masks.now in
    let w = a.trail.now in (
      join_more c.loop-d.d (wants_in m w a.k) _ _ c.loop-d.invariant.0 (rw (c.less-needed.ensures, rules, ahead, low) refl),
      join_more c.loop-d.d (bans_in m w a.k) _ _ c.loop-d.invariant.1 (rw (bars, c.back.ensures) refl),
    )

pub returns : goal.returns
unfolding asks_of
returns c =
    let e : c.loop-d.d ≡ c.args.k = omega arith in
    ap₂ (λ (x y : ℕ). record { needed = x; barred = y }) (rw e at c.loop-d.invariant.0) (rw e at c.loop-d.invariant.1)
