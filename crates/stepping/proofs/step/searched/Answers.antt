-- `step::searched` meets its contract: where a chart that is surely active has no candidate and cannot stay, a search
-- would find nothing.
use mathlib.Core.Path.{sym, ap, ◌∙◌}
use Rattle.settling.specs.Trail.{beginning}
use Rattle.settling.specs.Hunt.{over, nothing}
use Rattle.tables.specs.Insertion.Laws.{hunts_stuck}
use Rattle.stepping.proofs.step.searched.Goals as goal

pub returns-then-is_stuck : goal.returns-then-is_stuck
unfolding over
returns-then-is_stuck c =
    c.none.ensures
    ∙ sym (ap (λ os. over os nothing) (hunts_stuck _ _ _ _ _ (beginning c.args.low) c.requires.1
    (sym (c.is_stuck.ensures _) ∙ c.if-is_stuck.true)))
