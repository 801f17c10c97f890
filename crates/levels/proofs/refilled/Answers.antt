-- `levels::refilled` meets its contract.
use mathlib.Core.Path.{◌≡◌}
use native.Mathlib.Omega.{arith}
use Rattle.levels.specs.Laws.Ring.{stands_with}
use Rattle.levels.specs.Laws.Marks.{marks_none}
use Rattle.levels.proofs.refilled.Goals as goal
use Rattle.levels.proofs.refilled.Goals.{Else-k-gt0, Start}

abbrev start : Else-k-gt0 → Start
start c = (goal.at.Else-k-gt0 c).Start

empty : (c : Else-k-gt0) → (start c).args.k.held ≡ 0
empty c = let y = c.if-k-gt0.false in omega arith

pub recalled-requires : goal.recalled-requires
recalled-requires c =
    let p = (start (goal.at.recalled-requires c).Else-k-gt0).requires in
    (p.0, (p.1, (empty (goal.at.recalled-requires c).Else-k-gt0, c.if-k-gt0-2.true)))

pub returns : goal.returns
returns c =
    let p = (start (goal.at.returns c).Else-k-gt0).requires in (
      record {
        stands = c.refill-f.ensures.1 _ (stands_with _ _ _ _ _ _ _ p.0.stands 0 (empty (goal.at.returns c).Else-k-gt0));
        is_fresh = p.0.is_fresh;
      },
      (marks_none _ _ _ _ _ _ p.1 _, c.refill-f.ensures.0),
    )
