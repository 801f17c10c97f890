-- `exports::mestecur_read` hands on what `read` answers; what is refused has the length 0.
use Rattle.std.proofs.Common.{◌≡◌, List, ℕ, sym, ◌∙◌}
use borrow.Author.Tests.{ne_eqb}
use Rattle.meaning.specs.Meaning.{same}
use Rattle.reading.specs.Read.{read_refusal, read_length}
use Rattle.checks.specs.Refusals.{number}
use Rattle.checks.specs.Refusals.Laws.{number-some}
use Rattle.checks.specs.declared.refusal.Refusal.{Refusal}
use Rattle.exports.proofs.mestecur_read.Goals as goal

none : (text : List ℕ) (room : ℕ) (r : Refusal) → number r ≡ read_refusal text room → 0 ≡ read_length text room
unfolding read_length same
none text room r e = rw (← e, ne_eqb (number r) 0 (number-some r))

pub returns-in-Ok : goal.returns-in-Ok
returns-in-Ok c = let e = c.in-Ok.ensures in (sym e.0.0, e.1, e.0.1, sym e.0.2)

pub returns-in-Err : goal.returns-in-Err
returns-in-Err c = let e = c.in-Err.ensures in (c.number.ensures ∙ e.0.0, e.1, none _ _ _ e.0.0, e.0.1)
