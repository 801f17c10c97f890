use mathlib.Core.Path.{◌≡◌, refl, ◌∙◌}
use native.Mathlib.Numerals.{add-one}
use native.Mathlib.Omega.{arith}
use Rattle.notation.specs.Grammar.{amp, of_literal}
use Rattle.spelling.specs.Typed.{literals}
use Rattle.printing.specs.Laws.Separated.{in_turn-none, adds-both}
use Rattle.printing.specs.Laws.Forms.{from_all-none, from_all-more, guard-turn}
use Rattle.printing.proofs.guards.guard.Goals as goal

pub loop-s-init : goal.loop-s-init
loop-s-init c = (refl, rw from_all-none (in_turn-none amp of_literal _ _))

pub loop-s-preserved : goal.loop-s-preserved
loop-s-preserved c = (
  c.literal-at.auto.out ∙ c.literal-next.auto.out ∙ c.loop-s.invariant.0,
  rw (add-one, from_all-more) ((adds-both c.literal-next.ensures c.literal-at.ensures).adds _ _ c.loop-s.invariant.1),
)

pub returns : goal.returns
unfolding literals
returns c =
    let e : c.loop-s.s ≡ 64 = omega arith in
    rw guard-turn (rw e at c.loop-s.invariant.1)

pub shape_of-out : goal.shape_of-out
shape_of-out c = c.loop-s.invariant.0
