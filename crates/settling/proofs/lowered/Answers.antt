use mathlib.Core.Path.{◌≡◌, refl, ap, ap₂, ◌∙◌}
use Prim.Native.Nat.{ℕ, ◌+◌}
use native.Mathlib.Omega.{arith}
use lib.ListN.{set}
use Rattle.signals.specs.Mask.{◌∪◌, ◌∩◌}
use Rattle.meaning.specs.Calls.{made}
use Rattle.cells.specs.Table.{back_at}
use Rattle.cells.specs.Trail.{half, low_in}
use Rattle.settling.specs.Trail.Laws.{made_filled}
use Rattle.settling.proofs.lowered.Goals as goal

pub loop-c-init : goal.loop-c-init
unfolding made
loop-c-init c = refl

pub loop-c-preserved : goal.loop-c-preserved
loop-c-preserved c =
    let a = c.args in
    let f : ℕ → ℕ =
    λ d. low_in a.trail.now a.k (a.from + d) ∪ a.action ∩ back_at a.masks.now (a.from + d) a.k in
    let e : c.low.result ∪ a.action ∩ c.back.result ≡ f c.loop-c.c =
    ap₂ (λ (x y : ℕ). x ∪ a.action ∩ y) c.low.ensures c.back.ensures in
    ap (set c.loop-c.row c.loop-c.c) e ∙ made_filled half 0 f c.loop-c.c c.loop-c.row (omega arith) c.loop-c.invariant
