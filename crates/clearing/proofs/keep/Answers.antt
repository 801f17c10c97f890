-- `keep` meets its contract: of a dead transition no byte is written, of another its record.
use mathlib.Core.Path.{sym, ◌∙◌}
use native.Mathlib.Omega.{arith}
use Rattle.layout.specs.Put.Laws.{put-none, put-length}
use Rattle.laying.specs.Sequence.{put_is}
use Rattle.clearing.proofs.LeftLaws.{bytes-dead, bytes_left, room_left}
use Rattle.clearing.proofs.keep.Goals as goal
use Rattle.clearing.proofs.keep.Goals.{After-slice_known-2-1}

pub returns-then-is_dead : goal.returns-then-is_dead
returns-then-is_dead c =
    put_is (sym (bytes-dead _ _ (sym c.is_dead.ensures ∙ c.if-is_dead.true))) (put-none _ _)

pub put_transition-requires : goal.put_transition-requires
put_transition-requires c =
    let l = room_left _ _ (sym c.is_dead.ensures ∙ c.if-is_dead.false) in
    let r = c.requires in
    omega arith

pub returns : goal.returns
returns c =
    put_is (sym (bytes_left _ _ (sym c.is_dead.ensures ∙ c.if-is_dead.false)))
    c.put_transition.ensures

pub shape_of-out : goal.shape_of-out
shape_of-out c = put-length (returns (goal.at.shape_of-out c).After-slice_known-2-1)
