use mathlib.Core.Path.{◌≡◌, refl, ap₂, ◌∙◌}
use Prim.Native.Nat.{ℕ}
use native.Mathlib.Omega.{arith}
use Rattle.signals.specs.Mask.{◌∪◌, ◌∩◌}
use Rattle.meaning.specs.Rewriting.{union_up_to}
use Rattle.tables.specs.Insertion.{others_at}
use Rattle.candidates.specs.Candidates.Laws.{join_more}
use Rattle.candidates.proofs.others.Goals as goal

pub loop-e-init : goal.loop-e-init
unfolding union_up_to
loop-e-init c = refl

pub loop-e-preserved : goal.loop-e-preserved
loop-e-preserved c = ap₂ (λ (x y : ℕ). c.loop-e.u ∪ x ∩ y) c.but.ensures c.back.ensures ∙ join_more _ _ _ c.loop-e.invariant

pub returns : goal.returns
unfolding others_at
returns c =
    let a = c.args in
    let e : c.loop-e.e ≡ a.charts = omega arith in
    rw e at c.loop-e.invariant
