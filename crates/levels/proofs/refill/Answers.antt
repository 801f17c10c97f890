use mathlib.Core.Path.{ap}
use native.Mathlib.Omega.{arith}
use Rattle.levels.specs.Ring.{depth_of}
use Rattle.levels.specs.Laws.Fill.{looks_first, looks_on, looks_found, looks_whole}
use Rattle.levels.proofs.refill.Goals as goal

pub loop-i-init : goal.loop-i-init
loop-i-init c = let p = c.requires in (omega arith, (omega arith, λ ls h. looks_first _ _ _ _ _ _ ls h))

pub loop-i-preserved-in-On : goal.loop-i-preserved-in-On
loop-i-preserved-in-On c =
    let p = c.requires in
    let e = c.one_back-w.ensures in
    let g = c.in-On.is in
    let b = ap depth_of g in
    let i = c.loop-i.invariant.0 in (
      omega (arith, e.1),
      (
        c.loop-i.invariant.1.0,
        λ ls h. looks_on _ _ _ _ _ _ ls _ _ _ (c.loop-i.invariant.1.1 ls h) (omega arith) (omega arith) _ e _ _ _ g,
      ),
    )

pub returns-then-is_done : goal.returns-then-is_done
returns-then-is_done c =
    let p = c.requires in
    let i = c.loop-i.invariant.0 in (
      omega arith,
      λ ls h. looks_found _ _ _ _ _ _ ls _ _ _ (c.loop-i.invariant.1.1 ls h) (omega arith) (omega arith) _
          c.one_back-w.ensures _
          c.in-Found.is c.loop-i.invariant.1.0 _ c.slot-at.ensures.0,
    )

pub loop-i-preserved : goal.loop-i-preserved
loop-i-preserved c =
    let p = c.requires in
    let i = c.loop-i.invariant.0 in
    let n = c.is_done.ensures c.if-is_done.false in
    let f = c.loop-i.invariant.1.0 in (
      omega arith,
      (
        omega arith,
        λ ls h. looks_first _ _ _ _ _ _ ls
            (looks_found _ _ _ _ _ _ ls _ _ _ (c.loop-i.invariant.1.1 ls h) (omega arith) (omega arith) _ c.one_back-w.ensures _
            c.in-Found.is f _ c.slot-at.ensures.0),
      ),
    )

pub returns : goal.returns
returns c = (
  omega arith,
  λ ls h. looks_whole _ _ _ _ _ _ ls _ _ _ (c.loop-i.invariant.1.1 ls h) c.loop-i-test.false
      c.loop-i.invariant.1.0 _ c.slot-at-2.ensures.0 _
      c.whole.ensures.0,
)

pub bounds-text-i : goal.bounds-text-i
bounds-text-i c = omega arith

pub one_back-w-requires : goal.one_back-w-requires
one_back-w-requires c = omega arith

pub slot-at-requires : goal.slot-at-requires
slot-at-requires c = (omega arith, omega arith)

pub bounds-ring-at : goal.bounds-ring-at
bounds-ring-at c = omega arith

pub offset_bounds-places-at : goal.offset_bounds-places-at
offset_bounds-places-at c = omega arith

pub bounds-places-at : goal.bounds-places-at
bounds-places-at c = omega arith

pub overflow_add-held : goal.overflow_add-held
overflow_add-held c = omega arith

pub is_done-requires : goal.is_done-requires
is_done-requires c = omega arith

pub slot-at-requires-2 : goal.slot-at-requires-2
slot-at-requires-2 c = (omega arith, omega arith)

pub bounds-ring-at-2 : goal.bounds-ring-at-2
bounds-ring-at-2 c = omega arith

pub offset_bounds-places-at-2 : goal.offset_bounds-places-at-2
offset_bounds-places-at-2 c = omega arith

pub bounds-places-at-2 : goal.bounds-places-at-2
bounds-places-at-2 c = omega arith

pub overflow_add-result : goal.overflow_add-result
overflow_add-result c = omega arith
