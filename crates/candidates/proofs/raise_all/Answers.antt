use mathlib.Core.Path.{refl, ap₂, ◌∙◌}
use native.Mathlib.Omega.{arith}
use lib.ListN.{get_or, length-set}
use lib.Seq.{get_or-set_other}
use Rattle.signals.specs.Mask.{◌∪◌, ◌∩◌}
use Rattle.cells.specs.Table.{back_at}
use Rattle.layout.specs.Row.Laws.{fill_more}
use Rattle.candidates.proofs.raise_all.Goals as goal

pub loop-d-preserved : goal.loop-d-preserved
loop-d-preserved c =
    let a = c.args in
    let i = c.loop-d.invariant in (
      simp length-set i.0,
      λ k p. get_or-set_other c.loop-d.low c.loop-d.d k _ 0 (λ e. omega arith) ∙ i.1 k (omega arith),
      fill_more (λ k. get_or a.low.now k 0 ∪ a.u ∩ back_at a.masks.now k a.c) c.loop-d.low c.loop-d.d _ i.2
          (ap₂ (λ x y. x ∪ a.u ∩ y) (i.1 c.loop-d.d (omega arith)) c.back.ensures) (omega arith),
    )
