-- What the functions of the posting compute one after another is what the posting says.
use Rattle.std.proofs.Common.{sym, ◌∙◌}
use Rattle.std.proofs.lemmas.Result.{err_from_is_err_and}
use Rattle.desk.proofs.Turns.Posted.{verdict_is, accepted, posts, posted, refuses, file_refused}
use Rattle.ledger.proofs.post.Goals as goal

pub returns-in_err-s : goal.returns-in_err-s
returns-in_err-s c =
    let a = c.args in
    let p = err_from_is_err_and c.from_residual.result c.from_residual.ensures.1 in
    rw p.1 (refuses a.file.now a.cases.now a.entries.now a.rows.now _
    (file_refused a.file.now a.cases.now a.entries.now a.rows.now _ (rw p.2 c.in_err-s.ensures)))

pub returns-in_err-decide : goal.returns-in_err-decide
returns-in_err-decide c =
    let a = c.args in let w = c.in_ok-s.ensures in
    let p = err_from_is_err_and c.from_residual-in_err-decide.result c.from_residual-in_err-decide.ensures.1 in
    let e = rw (w.1, c.all_entries-d.ensures) at c.in_err-decide.ensures in
    rw (p.1, p.2) (refuses a.file.now a.cases.now a.entries.now a.rows.now _
    (e ∙ verdict_is a.file.now a.cases.now a.entries.now _ w.0))

pub post_all-requires : goal.post_all-requires
post_all-requires c =
    let a = c.args in let w = c.in_ok-s.ensures in
    let z = rw (w.1, c.all_entries-d.ensures) at c.in_ok-decide.ensures in
    rw w.1 (posts a.file.now a.cases.now a.entries.now _
    (accepted a.file.now a.cases.now a.entries.now _ (sym (z ∙ verdict_is a.file.now a.cases.now a.entries.now _ w.0))))

pub returns : goal.returns
returns c =
    let a = c.args in let w = c.in_ok-s.ensures in
    let z = rw (w.1, c.all_entries-d.ensures) at c.in_ok-decide.ensures in
    rw (c.post_all.ensures.0, c.post_all.ensures.1, w.1, c.all_entries-d.ensures)
    (posted a.file.now a.cases.now a.entries.now a.rows.now w.0 z)
