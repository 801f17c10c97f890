-- `exports::mestecur_rewrite` hands on what `rewriting` answers; what is refused has the length 0.
use Rattle.std.proofs.Common.{◌≡◌, List, ℕ, ◌∙◌}
use borrow.Author.Tests.{ne_eqb}
use Rattle.meaning.specs.Meaning.{same}
use Rattle.meaning.specs.Rewriting.{rewrite_refusal, rewrite_length}
use Rattle.checks.specs.Refusals.{number}
use Rattle.checks.specs.Refusals.Laws.{number-some}
use Rattle.checks.specs.declared.refusal.Refusal.{Refusal}
use Rattle.exports.proofs.mestecur_rewrite.Goals as goal

none : (f : List ℕ) (room : ℕ) (r : Refusal) → number r ≡ rewrite_refusal f room → 0 ≡ rewrite_length f room
unfolding rewrite_length same
none f room r e = rw (← e, ne_eqb (number r) 0 (number-some r))

pub returns-in-Err : goal.returns-in-Err
returns-in-Err c =
    let e = c.in-Err.ensures in (c.number.ensures ∙ e.0, e.1, none _ _ _ e.0)
