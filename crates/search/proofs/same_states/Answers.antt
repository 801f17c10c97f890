use mathlib.Core.Path.{refl, sym}
use native.Mathlib.Omega.{arith}
use Rattle.search.proofs.same_states.Goals as goal
use Rattle.search.proofs.same_states.Invariants.{none, more, differ}

pub loop-c-init : goal.loop-c-init
loop-c-init c = refl

pub loop-c-preserved : goal.loop-c-preserved
loop-c-preserved c =
    let a = c.args in more a.best.now a.moves.now a.charts c.loop-c.c c.requires c.loop-c-test.true _
    c.entry-next.ensures c.loop-c.invariant c.if-next-first.false

pub returns-then-next-first : goal.returns-then-next-first
returns-then-next-first c o g =
    let a = c.args in
    sym (differ a.best.now a.moves.now a.charts c.loop-c.c c.requires c.loop-c-test.true _
    c.entry-next.ensures c.loop-c.invariant c.if-next-first.true)

pub returns : goal.returns
returns c o g =
    let a = c.args in
    sym (none a.best.now a.moves.now a.charts c.loop-c.c c.requires c.loop-c-test.false c.loop-c.invariant)

pub bounds-best-c : goal.bounds-best-c
bounds-best-c c = omega arith
