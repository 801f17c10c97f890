-- `composes` meets its contract: at least one level is read, and its kind tells.
use Rattle.script.proofs.Laws.{composes-none, composes_kind}
use Rattle.script.proofs.composes.Goals as goal

pub returns-then-left-eq0 : goal.returns-then-left-eq0
returns-then-left-eq0 c = composes-none _ _ _ c.if-left-eq0.true

pub node_at-requires : goal.node_at-requires
node_at-requires c = (c.requires.0.ranged.sized.holds, c.requires.1)

pub returns : goal.returns
returns c = composes_kind _ _ _ _ c.node_at.ensures _ c.if-left-eq0.false
