use mathlib.Core.Path.{◌≡◌, sym, ◌∙◌, ap}
use native.Mathlib.Omega.{arith}
use Rattle.meaning.specs.Meaning.{same}
use Rattle.meaning.specs.Laws.Bools.{same_refl, same_≢}
use Rattle.wiring.specs.Reach.{full}
use Rattle.settling.specs.Calm.Laws.{every-none, every-next, every_off}
use Rattle.relevance.proofs.all_out.Goals as goal

pub loop-c-init : goal.loop-c-init
loop-c-init c = every-none _

pub returns-then-up : goal.returns-then-up
unfolding full
returns-then-up c =
    sym (every_off c.args.charts _ c.loop-c.c (omega arith)
    (same_≢ _ full (λ e. c.if-up.true (c.up.ensures ∙ e))))

pub loop-c-preserved : goal.loop-c-preserved
unfolding full
loop-c-preserved c = every-next c.loop-c.c _ c.loop-c.invariant
    (ap (λ x. same x full) (sym c.up.ensures ∙ c.if-up.false) ∙ same_refl full)

pub returns : goal.returns
returns c =
    let e : c.loop-c.c ≡ c.args.charts = omega arith in
    sym (rw e at c.loop-c.invariant)
