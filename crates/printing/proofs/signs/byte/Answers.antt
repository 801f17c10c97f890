-- `byte` meets its contract: it writes in the buffer, behind its end it only counts, and it does neither where no text
-- can end.
use mathlib.Core.Path.{ap, ◌∙◌}
use lib.ListN.{length, length-set}
use Rattle.printing.specs.Laws.Prints.{writes_in, writes_out, writes_past}
use Rattle.printing.proofs.signs.byte.Goals as goal
use Rattle.printing.proofs.signs.byte.Goals.{else-at-out, then-at-out}

pub shape_of-out : goal.shape_of-out
shape_of-out c =
    let a = c.args in
    elim c.if-at-out.branch [ then-at-out w ↦ ap length w.out-is ∙ length-set a.out.now a.at a.b | else-at-out w ↦ ap length w.out-is ]

pub returns : goal.returns
returns c =
    elim c.if-at-out.branch [ then-at-out w ↦ rw w.out-is (writes_in _ _ _) | else-at-out w ↦ rw w.out-is (writes_out _ _ _ w.if-at-out.false) ]

pub returns-then-at-ge-MOST_TEXT : goal.returns-then-at-ge-MOST_TEXT
returns-then-at-ge-MOST_TEXT c = writes_past _ _ _ c.if-at-ge-MOST_TEXT.true
