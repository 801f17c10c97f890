-- `opened` meets its contract: 1, then 2 to 4 of the trailer, then 5 to 11 of the body that the trailer tells.
use mathlib.Core.Path.{◌≡◌, refl, sym, ◌∙◌}
use native.Mathlib.Omega.{arith}
use Rattle.std.proofs.lemmas.Result.{err_from_is_err_and}
use Rattle.meaning.specs.File.{trailer}
use Rattle.checks.specs.Refusals.Laws.{number-some}
use Rattle.opening.specs.Opening.Laws.{refused_short, refused_trailer, within, sized_part, refused_body, opens}
use Rattle.opening.proofs.opened.Goals as goal
use Rattle.opening.proofs.opened.Goals.{After-read_trailer-t}

pub returns-then-len-lt-TRAILER_BYTES : goal.returns-then-len-lt-TRAILER_BYTES
returns-then-len-lt-TRAILER_BYTES c = sym (refused_short _ c.if-len-lt-TRAILER_BYTES.true)

-- what is read is the trailer
is : (c : After-read_trailer-t) → c.read_trailer-t.result ≡ trailer c.args.file.now
unfolding trailer
is c = c.read_trailer-t.ensures

pub returns-in_err-test : goal.returns-in_err-test
returns-in_err-test c =
    let e = c.in_err-test.ensures in
    let p = err_from_is_err_and c.from_residual.result c.from_residual.ensures.1 in
    rw (p.1, p.2)
    (e ∙ sym (refused_trailer _ _ (is (goal.at.returns-in_err-test c).After-read_trailer-t) c.if-len-lt-TRAILER_BYTES.false (λ z. number-some _ (e ∙ z))))

pub overflow_sub-start : goal.overflow_sub-start
overflow_sub-start c =
    within _ _ (is (goal.at.overflow_sub-start c).After-read_trailer-t) c.if-len-lt-TRAILER_BYTES.false (sym c.in_ok-test.ensures)

pub test-requires-2 : goal.test-requires-2
test-requires-2 c =
    (sized_part _ _ (is (goal.at.test-requires-2 c).After-read_trailer-t) c.if-len-lt-TRAILER_BYTES.false (sym c.in_ok-test.ensures) _ c.shape-shape.ensures, omega arith)

pub returns-in_err-test-2 : goal.returns-in_err-test-2
returns-in_err-test-2 c =
    let p = err_from_is_err_and c.from_residual-in_err-test-2.result c.from_residual-in_err-test-2.ensures.1 in
    rw (p.1, p.2)
    (refused_body _ _ (is (goal.at.returns-in_err-test-2 c).After-read_trailer-t) c.if-len-lt-TRAILER_BYTES.false (sym c.in_ok-test.ensures) _ c.shape-shape.ensures c.in_err-test-2.ensures)

pub returns : goal.returns
returns c =
    opens _ _ (is (goal.at.returns c).After-read_trailer-t) c.if-len-lt-TRAILER_BYTES.false (sym c.in_ok-test.ensures) _ c.shape-shape.ensures _
    refl refl refl c.in_ok-test-2.ensures
