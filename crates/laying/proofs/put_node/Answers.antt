-- `put_node` meets its contract.
use native.Mathlib.Omega.{arith}
use Rattle.layout.specs.Record.Laws.{length_node}
use Rattle.layout.specs.Put.Laws.{put-length}
use Rattle.laying.specs.Sequence.{put_one}
use Rattle.laying.proofs.put_node.Goals as goal
use Rattle.laying.proofs.put_node.Goals.{After-slice_known-2-1}

pub returns : goal.returns
returns c = put_one _ 20 _ _ _ (length_node _) c.write_node.ensures

pub overflow_add-result : goal.overflow_add-result
overflow_add-result c = omega (arith, c.requires)

pub shape_of-out : goal.shape_of-out
shape_of-out c = put-length (returns (goal.at.shape_of-out c).After-slice_known-2-1)
