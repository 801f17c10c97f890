use mathlib.Core.Path.{◌≡◌, sym, ap, ◌∙◌}
use mathlib.Core.Bool.{false, not}
use mathlib.Core.List.{List}
use Prim.Native.Nat.{ℕ, ◌<◌}
use borrow.Author.Tests.{lt-ltb, le-ltb}
use lib.ListN.{get_or}
use Rattle.layout.specs.Body.{slave_at}
use Rattle.layout.specs.declared.body.Shape.{Shape}
use Rattle.layout.specs.declared.record.Slave.{Slave}
use Rattle.meaning.specs.Sums.Laws.{any_none, any-more, any-done}
use Rattle.meaning.specs.File.{file_at}
use Rattle.meaning.specs.Check.{not_below, inside?}
use Rattle.meaning.specs.Check.Nodes.{Treed, treed}
use Rattle.naming.specs.Inside.{Lows, fails}
use Rattle.naming.specs.Inside.Laws.{inside-bad, inside_good}
use Rattle.parts.specs.Parts.Laws.{slave_there}
use Rattle.naming.proofs.inside.bad_inside.Goals as goal
use Rattle.naming.proofs.inside.bad_inside.Goals.{After-slave_at-s, Else-n-eq0}

-- no slaves, none bad
none : (n : Shape) (b : List ℕ) → n.slaves ≡ 0 → false ≡ inside? (file_at n b)
unfolding inside? file_at
none n b e = rw e (sym (any_none _))

-- slave i by the table and by the tree
asked : (n : Shape) (b : List ℕ) (i : ℕ) (s : Slave) (t : List ℕ) → s ≡ slave_at n b i → Treed (file_at n b)
    → i < n.slaves
    → Lows (file_at n b) t n.nodes → not_below s.chart (get_or t s.node 0) ≡ fails (file_at n b) i
unfolding file_at
asked n b i s t e w l h = rw e (ap (not_below (slave_at n b i).chart) (h.at _ (w.node-there i l).0))

-- what 8 to 10 give
tree : (c : Else-n-eq0) → let a = c.args in Treed (file_at a.n a.body.now)
tree c = let p = c.requires in treed _ p.0.slaves p.0.nodes p.1

pub bounds-low-node : goal.bounds-low-node
bounds-low-node c =
    (slave_there _ _ _ _ c.slave_at-s.ensures c.requires.0.sized (tree (goal.at.bounds-low-node c).Else-n-eq0).node-there
    c.loop-i-test.true).0

-- what the loop's body asks of slave i
is : (c : After-slave_at-s) → let a = c.args in let s = c.slave_at-s.result in
    not_below s.chart (get_or c.lows-low.result s.node 0)
    ≡ fails (file_at a.n a.body.now) c.loop-i.i
is c =
    asked _ _ _ _ _ c.slave_at-s.ensures (tree (goal.at.After-slave_at-s c).Else-n-eq0) c.loop-i-test.true
    c.lows-low.ensures

pub returns-then-s-low : goal.returns-then-s-low
unfolding file_at
returns-then-s-low c =
    sym (inside-bad _ (tree (goal.at.returns-then-s-low c).Else-n-eq0) _ c.loop-i-test.true
    (sym (is (goal.at.returns-then-s-low c).After-slave_at-s) ∙ ap not (le-ltb _ _ c.if-s-low.true)))

pub loop-i-preserved : goal.loop-i-preserved
loop-i-preserved c = any-more _ _ c.loop-i.invariant (sym (is (goal.at.loop-i-preserved c).After-slave_at-s) ∙ ap not (lt-ltb _ _ c.if-s-low.false))

pub returns : goal.returns
unfolding file_at
returns c =
    sym (inside_good _ (tree (goal.at.returns c).Else-n-eq0)
    (sym (any-done _ _ _ c.loop-i.auto.i-end c.loop-i-test.false c.loop-i.invariant)))

pub returns-then-n-eq0 : goal.returns-then-n-eq0
returns-then-n-eq0 c = none _ _ c.if-n-eq0.true

pub lows-low-requires : goal.lows-low-requires
lows-low-requires c = (c.requires.0.sized, tree (goal.at.lows-low-requires c).Else-n-eq0)

pub loop-i-init : goal.loop-i-init
loop-i-init c = any_none _
