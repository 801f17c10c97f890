use mathlib.Core.Path.{◌≡◌, refl, sym, ap, ◌∙◌}
use Prim.Native.Nat.{◌+◌}
use native.Mathlib.Omega.{arith}
use Rattle.layout.specs.Body.{transition_at}
use Rattle.meaning.specs.Plain.{doubtful_with, any_doubtful}
use Rattle.plain.proofs.Laws.{left, left-all, left-none, found, passed}
use Rattle.plain.proofs.any_doubtful.Goals as goal
use Rattle.plain.proofs.any_doubtful.Goals.{After-doubtful_with}

pub loop-i-init : goal.loop-i-init
loop-i-init c = ap (any_doubtful _) (left-all _ _ _)

-- what was asked of the next one and those behind it
asked : (c : After-doubtful_with)
    → let a = c.args in
    let i = c.loop-i.i in
    c.doubtful_with.result ≡ doubtful_with a.fed (transition_at a.n a.body.now (a.start + i))
    (left (transition_at a.n a.body.now) a.start a.count (i + 1))
asked c = c.doubtful_with.ensures ∙ rw c.transition_at-t.ensures

pub returns-then-doubtful_with : goal.returns-then-doubtful_with
unfolding any_doubtful
returns-then-doubtful_with c =
    sym (c.loop-i.invariant ∙ found _ _ _ (doubtful_with _) (any_doubtful _)
    (λ t ts. refl) c.loop-i.i c.loop-i-test.true
    (sym (asked (goal.at.returns-then-doubtful_with c).After-doubtful_with) ∙ c.if-doubtful_with.true))

pub loop-i-preserved : goal.loop-i-preserved
unfolding any_doubtful
loop-i-preserved c =
    c.loop-i.invariant ∙ passed _ _ _ (doubtful_with _) (any_doubtful _)
    (λ t ts. refl) c.loop-i.i c.loop-i-test.true
    (sym (asked (goal.at.loop-i-preserved c).After-doubtful_with) ∙ c.if-doubtful_with.false)

pub returns : goal.returns
unfolding any_doubtful
returns c =
    sym (c.loop-i.invariant ∙ ap (any_doubtful _) (left-none _ _ _ c.loop-i.i c.loop-i-test.false))

pub transition_at-t-requires : goal.transition_at-t-requires
transition_at-t-requires c = (c.requires.0, omega arith)

pub doubtful_with-requires : goal.doubtful_with-requires
doubtful_with-requires c = (c.requires.0, omega arith)
