-- `levels::recalled` meets its contract: the level of the last mark is the innermost, and the others stand around its
-- place.
use mathlib.Core.Path.{◌≡◌}
use Prim.Native.Nat.{suc, ◌-◌}
use native.Mathlib.Omega.{arith}
use lib.ListN.{get_or, set}
use Rattle.levels.specs.Ring.{Under, Stands, levels_at}
use Rattle.levels.specs.Laws.Marks.{marks_pop, marks_left, recall_stands}
use Rattle.levels.proofs.recalled.Goals as goal
use Rattle.levels.proofs.recalled.Goals.{After-ring-1, Start}

abbrev start : After-ring-1 → Start
start c = (goal.at.After-ring-1 c).Start

before_last : (c : Start) → suc (c.args.k.marks - 1) ≡ c.args.k.marks
before_last c = let p = c.requires.1.1.1 in omega arith

-- the mark
under : (c : Start) → let a = c.args in
    let t = a.k.marks - 1 in
    Under a.text.now a.k.floor (get_or a.tops.now t 0) (get_or a.lasts.now t 0)
under c = c.requires.1.0.last _ (before_last c)

-- its level in the ring
stands : (c : After-ring-1) → let a = (start c).args in
    let t = a.k.marks - 1 in
    Stands a.text.now (set a.ring.now c.slot-s.result (get_or a.tops.now t 0))
    (set a.places.now c.slot-s.result (get_or a.lasts.now t 0)) a.k.end 1 (get_or a.lasts.now t 0)
    (levels_at a.text.now a.at)
stands c =
    let s = start c in
    recall_stands _ _ _ _ _ _ _ s.requires.0.stands s.requires.1.1.0 _ _ (under s) _ c.slot-s.ensures.0

pub returns-then-last-first : goal.returns-then-last-first
returns-then-last-first c =
    let s = start (goal.at.returns-then-last-first c).After-ring-1 in (
      record { stands = stands (goal.at.returns-then-last-first c).After-ring-1; is_fresh = s.requires.0.is_fresh },
      (marks_pop _ _ _ _ _ _ s.requires.1.0 _ _ (before_last s) c.if-last-first.true, omega arith),
    )

pub refill-f-requires : goal.refill-f-requires
refill-f-requires c =
    let s = start (goal.at.refill-f-requires c).After-ring-1 in
    ((under s).1.0, (s.requires.0.stands.kept.inside, omega arith))

pub returns : goal.returns
returns c =
    let s = start (goal.at.returns c).After-ring-1 in (
      record { stands = c.refill-f.ensures.1 _ (stands (goal.at.returns c).After-ring-1); is_fresh = s.requires.0.is_fresh },
      (marks_left _ _ _ _ _ _ s.requires.1.0 _ _ _ (before_last s) c.marks_left.ensures, c.refill-f.ensures.0),
    )
