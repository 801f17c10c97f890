-- `levels::with_room` meets its contract: the levels that are left out are those around the place of the oldest bracket
-- that stays, and the oldest of the ring is marked as the innermost of them.
use mathlib.Core.Path.{◌≡◌, refl}
use native.Mathlib.Omega.{arith}
use Rattle.levels.specs.Ring.{slot_of}
use Rattle.levels.specs.Laws.Ring.{stands_spill}
use Rattle.levels.specs.Laws.Marks.{spill_under}
use Rattle.levels.proofs.with_room.Goals as goal

pub returns : goal.returns
returns c =
    let a = c.args in
    let p = c.requires in
    let full : a.k.held ≡ 1024 = (let z = c.if-k-lt-KEPT.false in omega arith) in
    let next : c.slot-next.result ≡ slot_of a.k.end 1022 = (let z = c.slot-next.ensures.0 in omega arith) in (
      refl,
      (
        omega arith,
        λ text ls h.
            let s = stands_spill text _ _ _ _ _ ls h full _ next in
            let u = spill_under text _ _ _ _ _ ls h full _ s.rest in
            (s, λ m. c.marked-t.ensures text _ _ u.0 u.1 m),
      ),
    )

pub returns-then-k-lt-KEPT : goal.returns-then-k-lt-KEPT
returns-then-k-lt-KEPT c = (refl, (omega arith, λ text ls h. (h, λ m. m)))
