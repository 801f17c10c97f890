use mathlib.Core.Path.{refl, sym, ◌∙◌}
use Prim.Native.Nat.{◌+◌}
use native.Mathlib.Omega.{arith}
use lib.ListN.{drop}
use Rattle.tokens.specs.Tokens.{blanks}
use Rattle.tokens.specs.Laws.Steps.{peek_some}
use Rattle.roster.specs.Laws.Lines.{lines_start, lines_next, lines_end}
use Rattle.roster.proofs.records.lines_more.Goals as goal

pub loop-i-init : goal.loop-i-init
loop-i-init c = (c.requires, (refl, λ ts us x e room. lines_start _ ts us _ _ _ x e))

-- a comma takes the place further on
pub loop-i-smaller : goal.loop-i-smaller
loop-i-smaller c =
    let a = c.args in
    let k = peek_some a.text.now c.loop-i.i (c.loop-i.i + blanks (drop c.loop-i.i a.text.now)) refl 44 (omega arith)
    (sym c.peek.ensures ∙ c.loop-i-test.true) in
    let f = c.behind_sign.ensures.further (omega arith) k in
    omega (arith, c.transition_at-t.ensures.onward, c.transition_at-t.ensures.within)

pub loop-i-preserved : goal.loop-i-preserved
loop-i-preserved c = (
  c.transition_at-t.ensures.within,
  (
    c.put_transition-p.auto.out ∙ c.loop-i.invariant.1.0,
    λ ts us x e room. lines_next _ ts us _ _ _ _ _ _ _ _ _ _ (sym c.peek.ensures ∙ c.loop-i-test.true)
        c.behind_sign.ensures c.transition_at-t.ensures c.record_of.ensures c.put_transition-p.ensures
        room (c.loop-i.invariant.1.1 ts us x e room),
  ),
)

pub returns : goal.returns
returns c ts us x e room =
    lines_end _ ts us _ _ _ _ _ (λ k. c.loop-i-test.false (c.peek.ensures ∙ k)) (c.loop-i.invariant.1.1 ts us x e room)

pub peek-requires : goal.peek-requires
peek-requires c = c.loop-i.invariant.0

pub behind_sign-requires : goal.behind_sign-requires
behind_sign-requires c = c.loop-i.invariant.0

pub transition_at-t-requires : goal.transition_at-t-requires
transition_at-t-requires c = c.behind_sign.ensures.within

pub shape_of-out : goal.shape_of-out
shape_of-out c = c.loop-i.invariant.1.0
