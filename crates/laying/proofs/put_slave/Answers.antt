-- `put_slave` meets its contract.
use native.Mathlib.Omega.{arith}
use Rattle.layout.specs.Record.Laws.{length-slave}
use Rattle.layout.specs.Put.Laws.{put-length}
use Rattle.laying.specs.Sequence.{put_one}
use Rattle.laying.proofs.put_slave.Goals as goal
use Rattle.laying.proofs.put_slave.Goals.{After-slice_known-2-1}

pub returns : goal.returns
returns c = put_one _ 4 _ _ _ (length-slave _) c.write_slave.ensures

pub overflow_add-result : goal.overflow_add-result
overflow_add-result c = omega (arith, c.requires)

pub shape_of-out : goal.shape_of-out
shape_of-out c = put-length (returns (goal.at.shape_of-out c).After-slice_known-2-1)
