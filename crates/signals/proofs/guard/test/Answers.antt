-- `guard::test` meets its contract: it names a signal of what is lacking.
use mathlib.Core.Path.{sym, ap, ◌∙◌}
use Rattle.signals.specs.Look.{named}
use Rattle.signals.specs.Look.Laws.{named_is}
use Rattle.signals.specs.declared.guard.Tested.TheVariants.{Absent, Present}
use Rattle.signals.proofs.guard.test.Goals as goal

pub returns-in-Nothing : goal.returns-in-Nothing
returns-in-Nothing c = ap named (sym c.in-Nothing.is ∙ c.look-l.ensures) ∙ named_is _ _ _ _

pub returns-in-Missing : goal.returns-in-Missing
returns-in-Missing c =
    ap Absent c.lowest.ensures ∙ ap named (sym c.in-Missing.is ∙ c.look-l.ensures) ∙ named_is _ _ _ _

pub returns-in-There : goal.returns-in-There
returns-in-There c =
    ap Present c.lowest-in-There.ensures ∙ ap named (sym c.in-There.is ∙ c.look-l.ensures) ∙ named_is _ _ _ _
