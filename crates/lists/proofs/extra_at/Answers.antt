-- `extra_at` meets its contract: a comma tells that there is an extra set.
use mathlib.Core.Path.{refl, sym, ◌∙◌}
use native.Mathlib.Omega.{arith}
use Rattle.lists.specs.Laws.Sequentials.{extra_none, extra_some}
use Rattle.lists.proofs.extra_at.Goals as goal

pub returns-then-peek-eq44 : goal.returns-then-peek-eq44
returns-then-peek-eq44 c =
    extra_some _ _ _ _ (sym c.peek.ensures ∙ c.if-peek-eq44.true) c.behind_sign.ensures c.set.ensures

pub returns : goal.returns
returns c =
    extra_none _ _ _ (λ e. c.if-peek-eq44.false (c.peek.ensures ∙ e)) (omega arith) refl refl refl

pub set-requires : goal.set-requires
set-requires c = c.behind_sign.ensures.within
