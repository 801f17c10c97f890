use mathlib.Core.Path.{◌≡◌, ap, ◌∙◌}
use Prim.Native.Nat.{ℕ, ◌+◌, ◌<◌}
use native.Mathlib.Omega.{arith}
use lib.ListN.{drop}
use Rattle.layout.specs.Record.{transition_of}
use Rattle.layout.specs.Body.{transition_at}
use Rattle.counting.specs.Counting.{added_in, sum_in}
use Rattle.counting.specs.Counting.Laws.{begins-at, sum-none, sum_more, sum-small, product_small, sum_done}
use Rattle.counting.proofs.summed.Goals as goal
use Rattle.counting.proofs.summed.Goals.{At-loop-p, Start}

-- what is known where the loop begins
abbrev start : At-loop-p → Start
start t = (goal.at.At-loop-p t).Start

-- the transition that is next
next : (t : At-loop-p) → transition_of (drop t.loop-p.at (start t).args.body.now)
    ≡ transition_at (start t).args.n (start t).args.body.now ((start t).args.start + t.loop-p.p)
next t = begins-at (start t).args.n (start t).args.body.now _ t.loop-p.at t.loop-p.invariant.0

-- the sum with what it adds
more : (t : At-loop-p) → t.loop-p.p < (start t).args.count → (y : ℕ)
    → y ≡ added_in (start t).args.n.charts (start t).args.masters.now (start t).args.states.now
    (start t).args.counts.now (start t).args.c (start t).args.q
    (transition_of (drop t.loop-p.at (start t).args.body.now))
    → y + t.loop-p.total ≡ sum_in (start t).args.n (start t).args.body.now (start t).args.masters.now
    (start t).args.states.now (start t).args.counts.now (start t).args.c (start t).args.q (t.loop-p.p + 1)
more t h y e =
    let a = (start t).args in
    let r = (start t).requires in
    sum_more a.n a.body.now a.masters.now a.states.now a.counts.now a.c a.q a.start
    a.count r.1 r.2 t.loop-p.p t.loop-p.total y h t.loop-p.invariant.1
    (e ∙ ap (added_in a.n.charts a.masters.now a.states.now a.counts.now a.c a.q) (next t))

pub loop-p-init : goal.loop-p-init
loop-p-init c =
    let a = c.args in (
      omega arith,
      sum-none a.n a.body.now a.masters.now a.states.now a.counts.now a.c a.q
          c.staying-total.result c.staying-total.ensures,
    )

pub added-total-requires : goal.added-total-requires
added-total-requires c =
    let a = (start (goal.at.added-total-requires c).At-loop-p).args in
    let r = (start (goal.at.added-total-requires c).At-loop-p).requires in (
      omega (arith, r.0, r.3, c.loop-p.invariant.0),
      r.4,
      rw (next (goal.at.added-total-requires c).At-loop-p) (product_small a.n a.body.now a.masters.now a.states.now a.counts.now a.c
          a.q a.start a.count r.1 r.2 r.5 c.loop-p.p (omega arith)),
    )

pub overflow_add-total : goal.overflow_add-total
overflow_add-total c =
    let a = (start (goal.at.overflow_add-total c).At-loop-p).args in
    let r = (start (goal.at.overflow_add-total c).At-loop-p).requires in
    let e = more (goal.at.overflow_add-total c).At-loop-p (omega arith) c.added-total.result c.added-total.ensures in
    let f = sum-small a.n a.body.now a.masters.now a.states.now a.counts.now a.c a.q a.start
    a.count r.1 r.2 r.5 (c.loop-p.p + 1) (omega arith) in
    omega arith

pub loop-p-preserved : goal.loop-p-preserved
loop-p-preserved c =
    (omega (arith, c.loop-p.invariant.0), more (goal.at.loop-p-preserved c).At-loop-p (omega arith) c.added-total.result c.added-total.ensures)

pub returns : goal.returns
returns c =
    let a = (start (goal.at.returns c).At-loop-p).args in
    sum_done a.n a.body.now a.masters.now a.states.now a.counts.now a.c a.q a.count c.loop-p.p
    c.loop-p.total c.loop-p.auto.p-end (omega arith) c.loop-p.invariant.1
