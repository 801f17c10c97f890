-- `set` meets its contract.
use mathlib.Core.Path.{refl}
use Rattle.notation.specs.Grammar.{lbrace, rbrace, sign_bytes}
use Rattle.printing.specs.Laws.Prints.{prints_append}
use Rattle.printing.specs.Laws.Forms.{set-turn}
use Rattle.printing.proofs.sets.set.Goals as goal

pub returns : goal.returns
unfolding sign_bytes
returns c =
    rw set-turn
    (prints_append (c.sign-first.ensures lbrace refl) (prints_append c.members-end.ensures (c.sign.ensures rbrace refl)))
