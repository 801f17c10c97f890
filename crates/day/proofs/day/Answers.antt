-- `day` meets its contract: 31 if something stands behind the first bytes, and else what is printed for these.
use Rattle.day.specs.Day.Laws.{printed, from_more, from_all}
use Rattle.day.proofs.day.Goals as goal

pub returns-then-behind-gt0 : goal.returns-then-behind-gt0
returns-then-behind-gt0 c =
    printed _ _ _ _ _ (from_more _ _ c.if-behind-gt0.true) (rw c.number.ensures at c.refused_file.ensures)

pub returns : goal.returns
returns c = printed _ _ _ _ _ (from_all _ _ c.if-behind-gt0.false) c.lines_for.ensures
