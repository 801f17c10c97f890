-- `optional_set_at` meets its contract: an opening brace tells that there is a set.
use mathlib.Core.Path.{refl, sym, ◌∙◌}
use native.Mathlib.Omega.{arith}
use Rattle.forms.specs.Laws.Bytes.{optional_none, optional_some}
use Rattle.forms.proofs.optional_set_at.Goals as goal

pub returns-then-peek-eq123 : goal.returns-then-peek-eq123
returns-then-peek-eq123 c = optional_some _ _ _ (sym c.peek.ensures ∙ c.if-peek-eq123.true) c.set.ensures

pub returns : goal.returns
returns c =
    optional_none _ _ _ (λ e. c.if-peek-eq123.false (c.peek.ensures ∙ e)) (omega arith) refl refl refl
