-- `choose` meets its contract: states, what is sure, candidates, rows ahead.
use borrow.Author.Rules.{rules}
use Rattle.candidates.specs.Candidates.Laws.{raised_is, chooses}
use Rattle.candidates.proofs.choose.Goals as goal

pub list_all-requires : goal.list_all-requires
list_all-requires c = (c.requires.0, c.requires.2, search rules)

pub ahead_all-requires : goal.ahead_all-requires
ahead_all-requires c =
    let u = c.list_all.ensures in
    (record { masks = rw u.masks c.requires.1.masks; small = u.small }, c.requires.0.sized.charts, u.counts)

pub returns : goal.returns
returns c =
    let x = c.args in
    chooses x.n x.body.now x.config.now x.reads.now x.low.now x.shuts.now _ x.masks.now
    x.small.now _ _ _ _
    c.requires.0 c.requires.1 c.put_states.ensures
    (raised_is x.n x.body.now x.config.now x.reads.now x.masks.now _ x.sures.now x.low.now
    c.raise_sure.new.low c.requires.3 c.raise_sure.ensures)
    c.list_all.ensures c.ahead_all.ensures
