-- `guard_at` meets its contract: a slash tells that the guard is left out.
use mathlib.Core.Path.{refl, sym, ◌∙◌}
use Rattle.fields.specs.Laws.Guards.{guard_none, guard_some}
use Rattle.fields.proofs.guard_at.Goals as goal

pub returns-then-peek-eq47 : goal.returns-then-peek-eq47
returns-then-peek-eq47 c =
    guard_none _ _ _ (sym c.peek.ensures ∙ c.if-peek-eq47.true) c.behind_sign.ensures refl refl refl

pub returns : goal.returns
returns c = guard_some _ _ _ (λ e. c.if-peek-eq47.false (c.peek.ensures ∙ e)) c.literals.ensures
