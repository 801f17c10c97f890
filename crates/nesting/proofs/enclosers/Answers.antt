-- `enclosers` meets its contract. Assumes nothing.
use Rattle.meaning.specs.File.{file_at}
use Rattle.nesting.proofs.Near.{seeded}
use Rattle.nesting.proofs.enclosers.Goals as goal

pub hand_down-requires : goal.hand_down-requires
unfolding file_at
hand_down-requires c =
    let p = c.requires in
    (p, c.seed.auto.near, seeded _ p.sound _ p.sized.nodes c.seed.ensures)

pub returns : goal.returns
returns c = c.hand_down.ensures
