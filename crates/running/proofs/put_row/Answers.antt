-- `put_row` meets its contract: the fields of a step given, or those of a refusal.
use mathlib.Core.Path.{◌∙◌}
use Rattle.meaning.specs.Calls.{row_of}
use Rattle.checks.specs.Refusals.Laws.{number-some}
use Rattle.stepping.specs.Step.Laws.{tried-given, tried_refused}
use Rattle.running.proofs.put_row.Goals as goal

pub returns-in-Ok : goal.returns-in-Ok
unfolding row_of
returns-in-Ok c =
    let e = c.in-Ok.ensures in
    rw (tried-given _ c.args.t e.0, ← e.1, ← c.mark.ensures) c.put_fields.ensures

pub returns-in-Err : goal.returns-in-Err
unfolding row_of
returns-in-Err c =
    let e = c.in-Err.ensures in
    rw (tried_refused _ c.args.t (λ z. number-some _ (e.0 ∙ z)), ← e.0, ← c.number.ensures) c.put_fields-in-Err.ensures
