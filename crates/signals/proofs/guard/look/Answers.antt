-- `guard::look` meets its contract: what is missing of the needed signals, then what is there of the barred ones.
use mathlib.Core.Path.{◌≡◌, sym, ◌∙◌}
use Prim.Native.Nat.{ℕ, ◌≤◌, ◌<◌}
use native.Mathlib.Omega.{arith}
use borrow.Author.Tests.{eq-eqb, ne_eqb}
use Rattle.signals.specs.Mask.{◌∩◌, ◌∖◌}
use Rattle.signals.specs.Look.{lack}
use Rattle.signals.specs.declared.guard.Lack.TheVariants.{Nothing, Missing, There}
use Rattle.signals.proofs.guard.look.Goals as goal

some : (x : ℕ) → 0 < x → x ≡ 0 → ⊥
some x h z = omega arith

none : (x : ℕ) → x ≤ 0 → x ≡ 0
none x h = omega arith

-- a: what is missing
module _ (needed barred high low a : ℕ) (e : a ≡ needed ∖ high) where
  missing : 0 < a → Missing a ≡ lack needed barred high low
  unfolding lack
  missing h = rw (ne_eqb (needed ∖ high) 0 (λ z. some a h (e ∙ z)), e)

  module _ (l : a ≤ 0) where
    there : 0 < barred ∩ low → There (barred ∩ low) ≡ lack needed barred high low
    unfolding lack
    there h = rw (eq-eqb (needed ∖ high) 0 (sym e ∙ none a l), ne_eqb (barred ∩ low) 0 (some (barred ∩ low) h))

    nothing : barred ∩ low ≤ 0 → Nothing ≡ lack needed barred high low
    unfolding lack
    nothing h = rw (eq-eqb (needed ∖ high) 0 (sym e ∙ none a l), eq-eqb (barred ∩ low) 0 (none (barred ∩ low) h))

pub returns-then-missing-gt0 : goal.returns-then-missing-gt0
returns-then-missing-gt0 c =
    missing _ _ _ _ _ c.less-missing.ensures (let h = c.if-missing-gt0.true in omega arith)

pub returns-then-there-gt0 : goal.returns-then-there-gt0
returns-then-there-gt0 c =
    there _ _ _ _ _ c.less-missing.ensures (let h = c.if-missing-gt0.false in omega arith) c.if-there-gt0.true

pub returns : goal.returns
returns c =
    nothing _ _ _ _ _ c.less-missing.ensures (let h = c.if-missing-gt0.false in omega arith) c.if-there-gt0.false
