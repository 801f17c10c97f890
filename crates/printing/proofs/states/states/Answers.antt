use mathlib.Core.Path.{◌≡◌, refl, ◌∙◌}
use mathlib.Core.List.{[], ◌∷◌}
use native.Mathlib.Numerals.{add-one}
use native.Mathlib.Omega.{arith}
use Rattle.notation.specs.Grammar.{letQ, letter}
use Rattle.printing.specs.Laws.Separated.{in_turn-one, adds_none, adds-both}
use Rattle.printing.specs.Laws.Forms.{from_all-none, from_all-more, names-turn}
use Rattle.printing.proofs.states.states.Goals as goal

pub loop-q-init : goal.loop-q-init
loop-q-init c = (refl, rw from_all-none adds_none)

pub loop-q-preserved : goal.loop-q-preserved
loop-q-preserved c = (
  c.other-at.auto.out ∙ c.loop-q.invariant.0,
  rw (add-one, from_all-more) (adds-both c.loop-q.invariant.1 c.other-at.ensures),
)

pub shape_of-out : goal.shape_of-out
shape_of-out c = c.loop-q.invariant.0 ∙ c.name-at.auto.out

pub returns : goal.returns
unfolding letter
returns c =
    let a = c.args in
    let e : c.loop-q.q ≡ a.count = omega arith in
    rw names-turn
    ((rw e at c.loop-q.invariant.1).adds _ (a.initial ∷ []) (rw in_turn-one (c.name-at.ensures letQ refl)))
