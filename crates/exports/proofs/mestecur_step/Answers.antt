-- `exports::mestecur_step` hands on what `step` answers, the mark as a number; a refused step has no output, no mark and
-- no places.
use mathlib.Core.Path.{sym, ap, ◌∙◌}
use Rattle.meaning.specs.Sums.{one}
use Rattle.meaning.specs.Calls.{refusal_in, output_in, mark_in}
use Rattle.meaning.specs.Calls.Laws.{of_refused}
use Rattle.stepping.specs.Answer.Laws.{steps-given, steps-refused}
use Rattle.exports.proofs.mestecur_step.Goals as goal

pub returns-in-Ok : goal.returns-in-Ok
returns-in-Ok c =
    let e = c.in-Ok.ensures in
    let g = steps-given _ _ _ c.in-Ok.s e.0 in
    (sym g.0, e.1, g.1, c.number.ensures ∙ ap one g.2, g.3, g.4)

pub returns-in-Err : goal.returns-in-Err
returns-in-Err c =
    let e = c.in-Err.ensures in
    let g = steps-refused _ _ _ c.in-Err.e e.0 in (
      c.number-in-Err.ensures ∙ ap refusal_in (sym g.0),
      e.1,
      ap output_in (sym g.0),
      ap (λ a. one (mark_in a)) (sym g.0),
      sym (of_refused _ _ _ _ _ g.0),
      g.1,
    )
