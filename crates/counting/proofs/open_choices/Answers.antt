-- `open_choices` meets its contract: the table's total is the number of open choices.
use mathlib.Core.Path.{sym, ◌∙◌}
use native.Mathlib.Omega.{arith}
use Rattle.counting.specs.Counting.Laws.{total-small, total_is}
use Rattle.counting.proofs.open_choices.Goals as goal

pub total-requires : goal.total-requires
total-requires c =
    let a = c.args in (
      c.requires.0.masters,
      omega (arith, c.fill.ensures.long, c.requires.1),
      total-small a.n a.body.now a.config.now a.masters.now a.states.now c.requires.0
          c.fill.new.counts c.fill.ensures.right,
    )

pub returns : goal.returns
returns c =
    let a = c.args in (
      c.total.ensures ∙ sym (total_is a.n a.body.now a.config.now a.masters.now a.states.now
          c.requires.0 c.fill.new.counts c.fill.ensures.right),
      c.fill.ensures,
    )
