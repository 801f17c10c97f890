use mathlib.Core.Path.{refl, sym, ◌∙◌}
use mathlib.Core.List.{◌∷◌, ◌++◌}
use Prim.Native.Nat.{suc}
use native.Mathlib.Nat.{add-zero}
use native.Mathlib.Numerals.{add-one}
use native.Mathlib.Omega.{arith}
use lib.ListN.{get_or, drop_of_length-le}
use Rattle.line.specs.Line.{decimal, behind, joined, dot, dotted}
use Rattle.line.specs.Line.Laws.{dotted_cons, behind_cons}
use Rattle.layout.specs.Put.{Room}
use Rattle.layout.specs.Put.Laws.{put-append, put-length, room_first, room_next}
use Rattle.line.proofs.Laws.{left-all, left-put, left-none, left-length, left_room}
use Rattle.line.proofs.put_states.Goals as goal
use Rattle.line.proofs.put_states.Goals.{Else-states-eq0}
use Rattle.line.proofs.put_states.Invariants.{rest}

pub returns-then-states-eq0 : goal.returns-then-states-eq0
unfolding dotted joined
returns-then-states-eq0 c =
    let a = c.args in
    rw (drop_of_length-le a.states.now {i = 0} (omega arith))
    (record { is = refl; place = sym (add-zero a.at) })

-- room for the first state and for the rest
room : (c : Else-states-eq0) → let a = c.args in
    Room a.out.now a.at (decimal (get_or a.states.now 0 0) ++ rest a.states.now 1)
room c =
    rw (dotted_cons c.args.states.now (omega arith)) at c.requires

pub put_decimal-next-requires : goal.put_decimal-next-requires
put_decimal-next-requires c =
    let a = c.args in
    room_first a.out.now a.at (decimal (get_or a.states.now 0 0)) (rest a.states.now 1)
    (room (goal.at.put_decimal-next-requires c).Else-states-eq0)

pub put_state-next-requires : goal.put_state-next-requires
put_state-next-requires c =
    let a = c.args in
    let states = a.states.now in
    let r =
    room_next a.out.now a.at (decimal (get_or states 0 0)) (rest states 1) (room (goal.at.put_state-next-requires c).Else-states-eq0)
    c.put_decimal-next.ensures in
    room_first c.loop-i.out c.loop-i.next (dot ∷ decimal (get_or states c.loop-i.i 0)) (rest states (suc c.loop-i.i))
    (rw (behind_cons states c.loop-i.i (omega arith)) at (left_room (rest states c.loop-i.i) c.loop-i.invariant r))

pub loop-i-preserved : goal.loop-i-preserved
loop-i-preserved c =
    let states = c.args.states.now in rw add-one
    (left-put (dot ∷ decimal (get_or states c.loop-i.i 0)) (rest states (suc c.loop-i.i))
    (rw (behind_cons states c.loop-i.i (omega arith)) at c.loop-i.invariant) c.put_state-next.ensures)

pub shape_of-out : goal.shape_of-out
shape_of-out c = left-length _ c.loop-i.invariant ∙ put-length c.put_decimal-next.ensures

pub returns : goal.returns
unfolding behind
returns c =
    let states = c.args.states.now in
    rw (dotted_cons states (omega arith))
    (put-append c.put_decimal-next.ensures
    (left-none (rw (drop_of_length-le states c.loop-i-test.false) at c.loop-i.invariant)))

pub bounds-states-0 : goal.bounds-states-0
bounds-states-0 c = omega arith

pub overflow_cast-states : goal.overflow_cast-states
overflow_cast-states c = omega (arith, c.type_inv.states 0)

pub loop-i-init : goal.loop-i-init
loop-i-init c = left-all _ _ _

pub bounds-states-i : goal.bounds-states-i
bounds-states-i c = omega arith
