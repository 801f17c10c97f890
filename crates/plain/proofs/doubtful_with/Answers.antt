use mathlib.Core.Path.{◌≡◌, refl, sym, ap, ◌∙◌}
use Prim.Native.Nat.{◌+◌}
use native.Mathlib.Omega.{arith}
use Rattle.layout.specs.Body.{transition_at}
use Rattle.meaning.specs.Plain.{doubtful, doubtful_with}
use Rattle.plain.proofs.Laws.{left-all, left-none, found, passed}
use Rattle.plain.proofs.doubtful_with.Goals as goal
use Rattle.plain.proofs.doubtful_with.Goals.{After-is_doubtful}

pub loop-k-init : goal.loop-k-init
loop-k-init c = ap (doubtful_with _ _) (left-all _ _ _)

-- what was asked of the next one
asked : (c : After-is_doubtful)
    → let a = c.args in
    c.is_doubtful.result
    ≡ doubtful a.fed a.t (transition_at a.n a.body.now (a.start + c.loop-k.k))
asked c = c.is_doubtful.ensures ∙ ap (doubtful _ _) c.transition_at.ensures

pub returns-then-is_doubtful : goal.returns-then-is_doubtful
unfolding doubtful_with
returns-then-is_doubtful c =
    sym (c.loop-k.invariant ∙ found _ _ _ (λ u us. doubtful _ _ u) (doubtful_with _ _)
    (λ u us. refl) c.loop-k.k c.loop-k-test.true
    (sym (asked (goal.at.returns-then-is_doubtful c).After-is_doubtful) ∙ c.if-is_doubtful.true))

pub loop-k-preserved : goal.loop-k-preserved
unfolding doubtful_with
loop-k-preserved c =
    c.loop-k.invariant ∙ passed _ _ _ (λ u us. doubtful _ _ u) (doubtful_with _ _)
    (λ u us. refl) c.loop-k.k c.loop-k-test.true
    (sym (asked (goal.at.loop-k-preserved c).After-is_doubtful) ∙ c.if-is_doubtful.false)

pub returns : goal.returns
unfolding doubtful_with
returns c =
    sym (c.loop-k.invariant ∙ ap (doubtful_with _ _) (left-none _ _ _ c.loop-k.k c.loop-k-test.false))

pub transition_at-requires : goal.transition_at-requires
transition_at-requires c = (c.requires.0, omega arith)
