-- `begins_chart` meets its contract: the first bytes of two tokens tell.
use mathlib.Core.Path.{sym, ap, ◌∙◌}
use lib.Dec.{eqb}
use Rattle.lists.specs.Laws.Tokens.{begins-other, begins_bracket}
use Rattle.lists.proofs.begins_chart.Goals as goal

pub returns-then-peek-eq40 : goal.returns-then-peek-eq40
returns-then-peek-eq40 c t ts h =
    ap (λ n. eqb n 99) c.peek-then-peek-eq40.ensures
    ∙ begins_bracket _ _ _ (sym c.peek.ensures ∙ c.if-peek-eq40.true) c.behind_sign.ensures t ts h

pub returns : goal.returns
returns c =
    let a = c.args in
    begins-other a.text.now a.at (λ e. c.if-peek-eq40.false (c.peek.ensures ∙ e))

pub peek-requires-then-peek-eq40 : goal.peek-requires-then-peek-eq40
peek-requires-then-peek-eq40 c = c.behind_sign.ensures.within
