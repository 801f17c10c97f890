-- `lines_from` meets its contract: the first transition, and then those behind commas.
use mathlib.Core.Path.{◌∙◌}
use Rattle.roster.specs.Laws.Lines.{lines_all}
use Rattle.roster.proofs.records.lines_from.Goals as goal

pub returns : goal.returns
returns c =
    lines_all _ _ _ _ _ _ _ _ _ _ c.transition_at-t.ensures c.record_of.ensures
    c.put_transition-p.ensures c.lines_more.ensures

pub shape_of-out : goal.shape_of-out
shape_of-out c = c.lines_more.auto.out ∙ c.put_transition-p.auto.out

pub lines_more-requires : goal.lines_more-requires
lines_more-requires c = c.transition_at-t.ensures.within
