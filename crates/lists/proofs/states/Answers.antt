-- `states` meets its contract: behind the opening brace stand the names.
use Rattle.lists.specs.Laws.States.{states-right}
use Rattle.lists.proofs.states.Goals as goal

pub returns : goal.returns
returns c = states-right _ _ _ _ c.behind_sign.ensures c.states_from.ensures

pub states_from-requires : goal.states_from-requires
states_from-requires c = c.behind_sign.ensures.within
