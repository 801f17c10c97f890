use native.Mathlib.Omega.{arith}
use borrow.Author.Rules.{rules}
use lib.ListN.{length-set}
use Rattle.layout.specs.Row.Laws.{fill_more}
use Rattle.plan.proofs.down_row.Goals as goal

pub loop-c-init : goal.loop-c-init
loop-c-init c = (search rules, λ k p. absurd (omega arith))

pub loop-c-preserved : goal.loop-c-preserved
loop-c-preserved c = (
  simp length-set c.loop-c.invariant.0,
  fill_more _ c.loop-c.row c.loop-c.c _ c.loop-c.invariant.1 c.down_in.ensures (omega (arith, c.loop-c.invariant.0, c.requires)),
)

pub returns : goal.returns
returns c = λ k p. c.loop-c.invariant.1 k (omega arith)

pub down_in-requires : goal.down_in-requires
down_in-requires c = omega (arith, c.requires)

pub offset_bounds-row-c : goal.offset_bounds-row-c
offset_bounds-row-c c = omega (arith, c.requires)

pub bounds-row-c : goal.bounds-row-c
bounds-row-c c = omega (arith, c.requires)
