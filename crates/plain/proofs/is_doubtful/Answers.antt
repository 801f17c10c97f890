-- `is_doubtful` meets its contract.
use Rattle.meaning.specs.Meaning.{same}
use Rattle.plain.proofs.is_doubtful.Goals as goal

pub returns : goal.returns
unfolding same
returns c = rw c.told_apart.ensures
