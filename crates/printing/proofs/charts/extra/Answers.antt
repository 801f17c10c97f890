-- `extra` meets its contract.
use mathlib.Core.Path.{refl}
use Rattle.notation.specs.Grammar.{comma, sign_bytes}
use Rattle.printing.specs.Laws.Prints.{prints_none, prints_append}
use Rattle.printing.specs.Laws.Forms.{extra_none, extra_some}
use Rattle.printing.proofs.charts.extra.Goals as goal

pub returns-then-x-eq0 : goal.returns-then-x-eq0
returns-then-x-eq0 c = rw (extra_none _ c.if-x-eq0.true) (prints_none _ _)

pub returns : goal.returns
unfolding sign_bytes
returns c =
    rw (extra_some _ c.if-x-eq0.false) (prints_append (c.sign-next.ensures comma refl) c.set.ensures)
