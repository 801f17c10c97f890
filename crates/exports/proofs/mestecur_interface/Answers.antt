-- `exports::mestecur_interface` hands on what `interface` answers; a refused file has no signals.
use Rattle.std.proofs.Common.{◌≡◌, refl, List, ℕ, ◌∙◌}
use borrow.Author.Tests.{ne_eqb}
use Rattle.meaning.specs.Meaning.{same}
use Rattle.meaning.specs.Check.{refusal_of}
use Rattle.meaning.specs.Calls.{input_of, output_of}
use Rattle.checks.specs.Refusals.{number}
use Rattle.checks.specs.Refusals.Laws.{number-some}
use Rattle.checks.specs.declared.refusal.Refusal.{Refusal}
use Rattle.exports.proofs.mestecur_interface.Goals as goal

none : (f : List ℕ) (r : Refusal) → number r ≡ refusal_of f → (0 ≡ input_of f) × (0 ≡ output_of f)
unfolding input_of output_of same
none f r e = rw (← e, ne_eqb (number r) 0 (number-some r)) (refl, refl)

pub returns-in-Err : goal.returns-in-Err
returns-in-Err c =
    let z = none _ _ c.in-Err.ensures in (c.number.ensures ∙ c.in-Err.ensures, z.0, z.1)
