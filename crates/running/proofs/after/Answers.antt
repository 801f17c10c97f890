-- `after` meets its contract: a step given has the next states and carries nothing, and a refused one leaves the states
-- and carries what it was offered.
use mathlib.Core.Path.{refl, ap, ◌∙◌}
use lib.ListN.{take}
use Rattle.checks.specs.Refusals.Laws.{number-some}
use Rattle.stepping.specs.Step.Laws.{tried_refused, tried-given}
use Rattle.running.proofs.after.Goals as goal

pub returns : goal.returns
returns c n =
    let e = c.in-Ok.ensures in
    rw (tried-given n c.args.t e.0) (ap (λ f. take n f.next) e.1, refl)

pub returns-in_default : goal.returns-in_default
returns-in_default c n =
    let e = c.in_default.ensures in
    rw (tried_refused n c.args.t (λ z. number-some _ (e.0 ∙ z))) (refl, refl)
