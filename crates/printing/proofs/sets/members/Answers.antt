use mathlib.Core.Path.{◌≡◌, refl, ◌∙◌}
use native.Mathlib.Numerals.{add-one}
use native.Mathlib.Omega.{arith}
use Rattle.notation.specs.Grammar.{comma, letS, name₁}
use Rattle.spelling.specs.Typed.{members}
use Rattle.printing.specs.Laws.Separated.{in_turn-none}
use Rattle.printing.specs.Laws.Forms.{from_all-none, from_all-more}
use Rattle.printing.proofs.sets.members.Goals as goal

pub loop-s-init : goal.loop-s-init
loop-s-init c = (refl, rw from_all-none (in_turn-none comma (name₁ letS) _ _))

pub loop-s-preserved : goal.loop-s-preserved
loop-s-preserved c = (
  c.member-at.auto.out ∙ c.loop-s.invariant.0,
  rw (add-one, from_all-more) (c.member-at.ensures.adds _ _ c.loop-s.invariant.1),
)

pub returns : goal.returns
unfolding members
returns c =
    let e : c.loop-s.s ≡ 64 = omega arith in
    rw e at c.loop-s.invariant.1

pub shape_of-out : goal.shape_of-out
shape_of-out c = c.loop-s.invariant.0
