use mathlib.Core.Path.{◌≡◌, sym, ◌∙◌}
use mathlib.Core.List.{List}
use mathlib.Core.Bool.{not, ◌&&◌}
use Prim.Native.Nat.{ℕ}
use native.Mathlib.Omega.{arith}
use lib.Dec.{ltb}
use Rattle.meaning.specs.Numbers.{most_charts}
use Rattle.meaning.specs.Sums.Laws.{any_none, any-more, any_at}
use Rattle.meaning.specs.Meaning.{same}
use Rattle.cells.specs.Table.{count_at, master_at}
use Rattle.cells.specs.Triggers.{told_at}
use Rattle.settling.specs.Calm.{stays_at}
use Rattle.tables.specs.Insertion.{stuck}
use Rattle.candidates.proofs.is_stuck.Goals as goal
use Rattle.candidates.proofs.is_stuck.Goals.{After-told}

-- what was tested is chart d's
tested : (s y : List ℕ) (d : ℕ) {n m k : ℕ} → n ≡ count_at s d → m ≡ master_at s d → k ≡ told_at y d →
    (same (count_at s d) 0 && (not (ltb (master_at s d) most_charts) && not (not (same (told_at y d) 0))))
    ≡ (same n 0 && (not (ltb m most_charts) && not (not (same k 0))))
tested s y d p q r = rw (p, q, r)

tested_at : (c : After-told) →
    let a = c.args in
    (same (count_at a.small.now c.loop-c.c) 0 && (not (ltb (master_at a.small.now c.loop-c.c) most_charts)
    && not (not (same (told_at a.stays.now c.loop-c.c) 0))))
    ≡ (same c.count.result 0
    && (not (ltb c.master.result most_charts) && not (not (same c.told.result 0))))
tested_at c =
    let a = c.args in
    tested a.small.now a.stays.now c.loop-c.c c.count.ensures c.master.ensures
    c.told.ensures

pub loop-c-init : goal.loop-c-init
loop-c-init c = any_none _

pub returns-then-count-master : goal.returns-then-count-master
unfolding stuck stays_at same
returns-then-count-master c g =
    sym (any_at _ _ c.loop-c.c (omega arith)
    (tested_at (goal.at.returns-then-count-master c).After-told ∙ c.if-count-master.true))

pub loop-c-preserved : goal.loop-c-preserved
unfolding same
loop-c-preserved c = any-more _ _ c.loop-c.invariant (tested_at (goal.at.loop-c-preserved c).After-told ∙ c.if-count-master.false)

pub returns : goal.returns
unfolding stuck stays_at
returns c g =
    let e : c.loop-c.c ≡ c.args.charts = omega arith in
    sym (rw e at c.loop-c.invariant)
