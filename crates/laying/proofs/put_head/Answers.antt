-- `put_head` meets its contract.
use native.Mathlib.Omega.{arith}
use Rattle.layout.specs.Record.Laws.{length-head}
use Rattle.layout.specs.Put.Laws.{put-length}
use Rattle.laying.specs.Sequence.{put_one}
use Rattle.laying.proofs.put_head.Goals as goal
use Rattle.laying.proofs.put_head.Goals.{After-slice_known-2-1}

pub returns : goal.returns
returns c = put_one _ 24 _ _ _ (length-head _) c.write_head.ensures

pub overflow_add-result : goal.overflow_add-result
overflow_add-result c = omega (arith, c.requires)

pub shape_of-out : goal.shape_of-out
shape_of-out c = put-length (returns (goal.at.shape_of-out c).After-slice_known-2-1)
