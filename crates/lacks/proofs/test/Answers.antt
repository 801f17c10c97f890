-- `test` meets its contract: one set, tested twice.
use Rattle.lacks.specs.Lacking.{test_of}
use Rattle.lacks.proofs.test.Goals as goal

pub returns : goal.returns
unfolding test_of
returns c = c.test.ensures
