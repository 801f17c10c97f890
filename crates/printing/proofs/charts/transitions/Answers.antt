-- `transitions` meets its contract.
use mathlib.Core.Path.{refl}
use Rattle.notation.specs.Grammar.{lbrace, rbrace, sign_bytes}
use Rattle.printing.specs.Laws.Prints.{prints_append}
use Rattle.printing.specs.Laws.Forms.{transitions_turn}
use Rattle.printing.proofs.charts.transitions.Goals as goal

pub returns : goal.returns
unfolding sign_bytes
returns c =
    rw transitions_turn
    (prints_append (c.sign-first.ensures lbrace refl)
    (prints_append c.in_order-end.ensures
    (c.sign.ensures rbrace refl)))
