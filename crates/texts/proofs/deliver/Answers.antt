-- `deliver` meets its contract: the file's own refusal, 45, or the file over the front of the buffer.
use mathlib.Core.Path.{◌≡◌, refl, sym, ◌∙◌}
use Rattle.std.proofs.lemmas.Result.{err_from_is_err_and}
use Rattle.checks.specs.Refusals.Laws.{number-some}
use Rattle.checks.specs.declared.refusal.Refusal.TheVariants.{ShortOut}
use Rattle.layout.specs.Put.Laws.{put-over}
use Rattle.texts.specs.Promises.{deliver_tests}
use Rattle.texts.specs.Laws.Tests.{tests_refused, tests_passed, deliver_refused, deliver_short, deliver_passed}
use Rattle.texts.proofs.deliver.Goals as goal

pub returns-in_err-opened : goal.returns-in_err-opened
returns-in_err-opened c =
    let e = c.in_err-opened.ensures in
    let p = err_from_is_err_and c.from_residual.result c.from_residual.ensures.1 in
    rw (p.1, p.2)
    (tests_refused (deliver_tests _ _) _ _ _ (deliver_refused _ _ (λ z. number-some _ (e ∙ z)) ∙ sym e))

pub returns-then-out-file : goal.returns-then-out-file
returns-then-out-file c =
    rw c.into.ensures
    (tests_refused (deliver_tests _ _) _ _ ShortOut (deliver_short _ _ c.in_ok-opened.ensures.0 c.if-out-file.true))

pub returns : goal.returns
returns c =
    tests_passed (deliver_tests _ _) _ _ _ _ (deliver_passed _ _ c.in_ok-opened.ensures.0 c.if-out-file.false) refl
    (put-over c.put_word.ensures c.if-out-file.false).1
