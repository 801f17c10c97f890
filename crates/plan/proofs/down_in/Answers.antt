-- `plan::down_in` meets its contract, by whether the chart is in the set.
use mathlib.Core.Path.{sym, ap, ◌∙◌}
use mathlib.Core.Bool.{Bool, cond}
use lib.ListN.{get_or}
use Rattle.plan.proofs.down_in.Goals as goal

pub returns-then-has : goal.returns-then-has
returns-then-has c =
    let a = c.args in
    sym (ap (λ (b : Bool). cond b (get_or a.down.now a.c 0) 0) (sym c.has.ensures ∙ c.if-has.true))

pub returns : goal.returns
returns c =
    let a = c.args in
    sym (ap (λ (b : Bool). cond b (get_or a.down.now a.c 0) 0) (sym c.has.ensures ∙ c.if-has.false))
