-- `literal` meets its contract: a minus tells a barred signal.
use mathlib.Core.Path.{refl, sym, ◌∙◌}
use Rattle.fields.specs.Laws.Guards.{literal_barred, literal_needed}
use Rattle.fields.proofs.literal.Goals as goal

pub returns-then-peek-eq45 : goal.returns-then-peek-eq45
returns-then-peek-eq45 c =
    literal_barred _ _ _ _ _ _ _ (sym c.peek.ensures ∙ c.if-peek-eq45.true) c.behind_sign.ensures
    c.name_at-n.ensures c.with_signal-j.ensures refl refl refl refl

pub returns : goal.returns
returns c =
    literal_needed _ _ _ _ _ _ (λ e. c.if-peek-eq45.false (c.peek.ensures ∙ e)) c.name_at-n-2.ensures
    c.with_signal-j-2.ensures refl refl refl refl

pub name_at-n-requires : goal.name_at-n-requires
name_at-n-requires c = c.behind_sign.ensures.within
