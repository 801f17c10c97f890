use mathlib.Core.Path.{◌≡◌, subst, ◌∙◌}
use native.Mathlib.Omega.{arith}
use Rattle.candidates.specs.Candidates.{Stated}
use Rattle.candidates.specs.Candidates.Laws.{stated_none, stated_next}
use Rattle.candidates.proofs.put_states.Goals as goal

pub loop-c-preserved : goal.loop-c-preserved
loop-c-preserved c =
    let a = c.args in rw c.put_state.ensures
    (stated_next a.config.now c.loop-c.c a.small.now c.loop-c.small c.loop-c.invariant (omega arith))

pub returns : goal.returns
returns c =
    let a = c.args in
    let e : c.loop-c.c ≡ a.charts = omega arith in
    subst (λ n. Stated a.config.now n a.small.now c.loop-c.small) e c.loop-c.invariant
