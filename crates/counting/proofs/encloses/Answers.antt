use mathlib.Core.Path.{sym, ◌∙◌, ap}
use native.Mathlib.Omega.{arith}
use Rattle.meaning.specs.Sums.Laws.{any_none, any-more, any_at, any-done}
use Rattle.meaning.specs.Meaning.{same}
use Rattle.meaning.specs.Laws.Bools.{same_refl, same_≢}
use Rattle.counting.proofs.encloses.Goals as goal

pub loop-d-init : goal.loop-d-init
loop-d-init c = any_none _

pub returns-then-wide-c : goal.returns-then-wide-c
returns-then-wide-c c =
    let a = c.args in
    let e = c.wide.ensures in
    sym (any_at _ _ c.loop-d.d c.loop-d-test.true
    (ap (λ z. same z a.c) (sym e ∙ c.if-wide-c.true) ∙ same_refl a.c))

pub loop-d-preserved : goal.loop-d-preserved
loop-d-preserved c =
    let a = c.args in
    let e = c.wide.ensures in
    any-more _ _ c.loop-d.invariant (ap (λ z. same z a.c) (sym e) ∙ same_≢ _ a.c c.if-wide-c.false)
