-- `entry` meets its contract: where the chart encloses none, each product is 1.
use mathlib.Core.Path.{◌≡◌, sym, ◌∙◌}
use Prim.Native.Nat.{◌+◌}
use native.Mathlib.Omega.{arith}
use Rattle.counting.specs.Counting.{sum_in}
use Rattle.counting.specs.Counting.Laws.{sum_alone}
use Rattle.counting.proofs.entry.Goals as goal
use Rattle.counting.proofs.entry.Goals.{After-staying-stays}

-- staying and the transitions that leave the state are all
all : (c : After-staying-stays) → let a = c.args in
    a.left + c.staying-stays.result
    ≡ sum_in a.n a.body.now a.masters.now a.states.now a.counts.now a.c a.q a.count
all c =
    let a = c.args in
    sum_alone a.n a.body.now a.masters.now a.states.now a.counts.now a.c a.q
    (sym c.encloses.ensures ∙ c.if-encloses.false) a.start a.count _ _ c.requires.1 c.requires.2
    c.staying-stays.ensures (rw (c.requires.1, c.requires.2) c.requires.6)

pub staying-stays-requires : goal.staying-stays-requires
staying-stays-requires c = let r = c.requires in (r.4, r.5.staying)

pub overflow_add-result : goal.overflow_add-result
overflow_add-result c =
    let a = c.args in
    let e = all (goal.at.overflow_add-result c).After-staying-stays in
    let f = c.requires.5.sums a.count (omega (arith, c.requires.2)) in
    omega arith

pub encloses-requires : goal.encloses-requires
encloses-requires c = c.requires.4.masters

pub returns : goal.returns
returns c = all (goal.at.returns c).After-staying-stays
