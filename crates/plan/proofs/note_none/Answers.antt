use mathlib.Core.Path.{refl, ap, ◌∙◌}
use native.Mathlib.Omega.{arith}
use lib.ListN.{length, length-set}
use Rattle.plan.proofs.Noted.{noted_none-more}
use Rattle.plan.proofs.note_none.Goals as goal

pub loop-c-init : goal.loop-c-init
loop-c-init c = (refl, λ k l. absurd (omega arith))

pub loop-c-preserved : goal.loop-c-preserved
loop-c-preserved c =
    let e = c.put_nearest.ensures in (
      ap length e ∙ simp length-set c.loop-c.invariant.0,
      rw e (noted_none-more c.loop-c.c c.loop-c.small (omega arith) (c.loop-c.invariant.0 ∙ c.requires) c.loop-c.invariant.1),
    )

pub returns : goal.returns
returns c k l = c.loop-c.invariant.1 k (omega arith)

pub put_nearest-requires : goal.put_nearest-requires
put_nearest-requires c = (c.loop-c.invariant.0 ∙ c.requires, omega arith)

pub shape_of-small : goal.shape_of-small
shape_of-small c = c.loop-c.invariant.0
