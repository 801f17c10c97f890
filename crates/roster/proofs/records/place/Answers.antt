-- `place` meets its contract: past the end of the text there is nothing.
use mathlib.Core.Path.{sym, ◌∙◌}
use native.Mathlib.Omega.{arith}
use lib.ListN.{length, drop_of_length-le}
use Rattle.roster.proofs.records.place.Goals as goal

pub returns-then-c-ge-PLACES : goal.returns-then-c-ge-PLACES
returns-then-c-ge-PLACES c = (omega arith, λ l. absurd (omega arith))

pub returns : goal.returns
returns c =
    let a = c.args in (
      omega arith,
      λ l. drop_of_length-le a.text.now {i = length a.text.now} (omega arith)
          ∙ sym (drop_of_length-le a.text.now c.if-at-text.false),
    )
