-- `put` meets its contract: the two writers do.
use Rattle.candidates.proofs.put.Goals as goal

pub returns : goal.returns
returns c = (
  c.put_candidate.ensures,
  c.put_candidate-2.ensures,
)
