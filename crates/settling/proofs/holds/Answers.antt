-- `settling::holds` meets its contract: nothing is lacking, or something is.
use mathlib.Core.Path.{◌≡◌, refl, sym, ap, ◌∙◌}
use mathlib.Core.Bool.{false}
use Rattle.signals.specs.Look.{is_nothing}
use Rattle.signals.specs.Look.Laws.{nothing_is}
use Rattle.signals.specs.declared.guard.Lack.{Lack}
use Rattle.signals.specs.declared.guard.Lack.TheVariants.{Nothing, Missing, There}
use Rattle.settling.proofs.holds.Goals as goal

something : (l : Lack) → (l ≡ Nothing → ⊥) → false ≡ is_nothing l
something Nothing h = absurd (h refl)
something (Missing s) h = refl
something (There s) h = refl

pub returns-in_default : goal.returns-in_default
returns-in_default c =
    something c.look.result c.in_default.not-Nothing ∙ ap is_nothing c.look.ensures ∙ nothing_is _ _ _ _

pub returns : goal.returns
returns c = ap is_nothing (sym c.in-Nothing.is ∙ c.look.ensures) ∙ nothing_is _ _ _ _
