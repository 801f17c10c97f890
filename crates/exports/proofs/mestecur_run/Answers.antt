-- `exports::mestecur_run` hands on what `run` answers; a refused run carries nothing.
use Rattle.std.proofs.Common.{◌≡◌, List, ℕ, length, ◌∙◌}
use borrow.Author.Tests.{ne_eqb}
use Rattle.meaning.specs.Meaning.{same}
use Rattle.meaning.specs.Calls.{run_refusal, run_carried}
use Rattle.checks.specs.Refusals.{number}
use Rattle.checks.specs.Refusals.Laws.{number-some}
use Rattle.checks.specs.declared.refusal.Refusal.{Refusal}
use Rattle.exports.proofs.mestecur_run.Goals as goal

none : (f config : List ℕ) (x : ℕ) (inputs : List ℕ) (room : ℕ) (r : Refusal)
    → number r ≡ run_refusal f config (length inputs) room → 0 ≡ run_carried f config x inputs room
unfolding run_carried same
none f config x inputs room r e = rw (← e, ne_eqb (number r) 0 (number-some r))

pub returns-in-Err : goal.returns-in-Err
returns-in-Err c =
    let e = c.in-Err.ensures in (c.number.ensures ∙ e.0, e.1, none _ _ _ _ _ _ e.0)
