use mathlib.Core.Path.{◌≡◌, refl, ◌∙◌}
use Prim.Native.Nat.{◌+◌, ◌≤◌}
use native.Mathlib.Numerals.{add-one}
use native.Mathlib.Omega.{arith}
use Rattle.notation.specs.Grammar.{comma, sign_bytes, of_transition}
use Rattle.checks.specs.Known.Laws.{in_all, own_are}
use Rattle.printing.specs.Laws.Separated.{in_turn-none, adds_one}
use Rattle.printing.specs.Laws.Forms.{typed_from-none, typed_from-more, transitions_solid}
use Rattle.printing.proofs.charts.in_order.Goals as goal
use Rattle.printing.proofs.charts.in_order.Goals.{In-loop-k}

pub loop-k-init : goal.loop-k-init
loop-k-init c = (refl, rw (typed_from-none _ _) (in_turn-none comma of_transition _ _))

-- the transitions are there
there : (c : In-loop-k) → c.start_of-start.result + c.head_at-head.result.transitions ≤ c.args.n.transitions
there c =
    in_all _ _ _ _ c.head_at-head.ensures c.start_of-start.ensures c.requires.1 c.requires.2

pub loop-k-preserved : goal.loop-k-preserved
unfolding sign_bytes
loop-k-preserved c = (
  c.transition-at.auto.out ∙ c.apart-next.auto.out ∙ c.loop-k.invariant.0,
  rw (add-one, typed_from-more)
      ((adds_one transitions_solid _ refl c.apart-next.ensures
      (rw c.transition_at-t.ensures at c.transition-at.ensures)
      ).adds _ _ c.loop-k.invariant.1),
)

pub returns : goal.returns
returns c =
    let e : c.loop-k.k ≡ c.head_at-head.result.transitions = omega arith in
    rw (own_are _ _ _ _ c.head_at-head.ensures c.start_of-start.ensures) (rw e at c.loop-k.invariant.1)

pub head_at-head-requires : goal.head_at-head-requires
head_at-head-requires c = (c.requires.0.holds, c.requires.2)

pub start_of-start-requires : goal.start_of-start-requires
start_of-start-requires c =
    (c.requires.0.holds, omega arith, (let w = c.requires.0.charts in omega arith))

pub overflow_add-start : goal.overflow_add-start
overflow_add-start c = omega (arith, there (goal.at.overflow_add-start c).In-loop-k)

pub transition_at-t-requires : goal.transition_at-t-requires
transition_at-t-requires c =
    (c.requires.0.holds, omega (arith, there (goal.at.transition_at-t-requires c).In-loop-k))

pub shape_of-out : goal.shape_of-out
shape_of-out c = c.loop-k.invariant.0
