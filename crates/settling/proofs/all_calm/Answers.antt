use mathlib.Core.Path.{◌≡◌, sym, ◌∙◌}
use native.Mathlib.Omega.{arith}
use Rattle.settling.specs.Calm.Laws.{calm-all, every-none, every-next, every_off}
use Rattle.settling.proofs.all_calm.Goals as goal

pub loop-d-init : goal.loop-d-init
loop-d-init c = λ s o. every-none _

pub returns-then-some_stay-eq0 : goal.returns-then-some_stay-eq0
returns-then-some_stay-eq0 c s o =
    sym (calm-all _ s _ _ c.requires.1 (sym c.some_stay.ensures ∙ c.if-some_stay-eq0.true) _ c.args.k c.requires.2)

pub returns-then-not-calm : goal.returns-then-not-calm
returns-then-not-calm c s o =
    let k = c.args.k in
    sym (every_off k _ c.loop-d.d (omega arith) (sym (c.calm.ensures s o) ∙ c.if-not-calm.true))

pub loop-d-preserved : goal.loop-d-preserved
loop-d-preserved c = λ s o. every-next c.loop-d.d _ (c.loop-d.invariant s o)
    (sym (c.calm.ensures s o) ∙ c.if-not-calm.false)

pub returns : goal.returns
returns c s o =
    let k = c.args.k in
    let e : c.loop-d.d ≡ k = omega arith in
    sym (rw e at (c.loop-d.invariant s o))
