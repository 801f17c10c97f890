-- `sequential` meets its contract: its parts are typed one after another.
use mathlib.Core.Path.{refl}
use Rattle.notation.specs.Grammar.{comma, rpar, sign_bytes}
use Rattle.printing.specs.Laws.Prints.{prints_append}
use Rattle.printing.specs.Laws.Forms.{sequential_parts}
use Rattle.printing.proofs.charts.sequential.Goals as goal

pub returns : goal.returns
unfolding sign_bytes
returns c =
    rw (sequential_parts _ _ _ _ c.head_at-head.ensures)
    (prints_append c.heading-behind_heading.ensures
    (prints_append (c.sign-list.ensures comma refl)
    (prints_append c.transitions-behind_list.ensures
    (prints_append c.extra-end.ensures
    (c.sign.ensures rpar refl)))))
