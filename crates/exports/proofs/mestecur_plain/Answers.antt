-- `exports::mestecur_plain` hands on what `plain` answers, yes as a number; a refused file is not plain.
use Rattle.std.proofs.Common.{◌≡◌, List, ℕ, ◌∙◌}
use borrow.Author.Tests.{ne_eqb}
use Rattle.meaning.specs.Meaning.{same}
use Rattle.meaning.specs.Check.{refusal_of}
use Rattle.meaning.specs.Sums.{one}
use Rattle.meaning.specs.Plain.{plain_of}
use Rattle.checks.specs.Refusals.{number}
use Rattle.checks.specs.Refusals.Laws.{number-some}
use Rattle.checks.specs.declared.refusal.Refusal.{Refusal}
use Rattle.exports.proofs.mestecur_plain.Goals as goal

no : (f : List ℕ) (r : Refusal) → number r ≡ refusal_of f → 0 ≡ one (plain_of f)
unfolding plain_of same
no f r e = rw (← e, ne_eqb (number r) 0 (number-some r))

pub returns-in-Err : goal.returns-in-Err
returns-in-Err c = (c.number-in-Err.ensures ∙ c.in-Err.ensures, no _ _ c.in-Err.ensures)
