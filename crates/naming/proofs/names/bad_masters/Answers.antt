use Prim.Native.Nat.{ℕ, ◌≤◌, ◌<◌}
use mathlib.Core.Path.{◌≡◌, sym, ap}
use mathlib.Core.Bool.{true, false, not}
use mathlib.Core.List.{List}
use native.Mathlib.Omega.{arith}
use borrow.Author.Tests.{lt-ltb, le-ltb}
use lib.ListN.{get_or}
use Rattle.layout.specs.Body.{slave_at}
use Rattle.layout.specs.declared.body.Shape.{Shape}
use Rattle.layout.specs.declared.record.Slave.{Slave}
use Rattle.meaning.specs.Sums.Laws.{any_none, any-more, any_at, any-done}
use Rattle.meaning.specs.File.{file_at}
use Rattle.meaning.specs.Check.Nodes.{slaves_there}
use Rattle.parts.specs.Parts.Laws.{slave_there}
use Rattle.naming.proofs.names.bad_masters.Goals as goal
use Rattle.naming.proofs.names.bad_masters.Invariants.{bad}

-- s is slave i
module _ (n : Shape) (b t : List ℕ) (i : ℕ) (s : Slave) (e : s ≡ slave_at n b i) where
  found : get_or t s.chart 0 ≤ s.node → bad n b t i ≡ true
  unfolding file_at
  found h = rw (← e) (ap not (le-ltb _ _ h))

  passed : s.node < get_or t s.chart 0 → bad n b t i ≡ false
  unfolding file_at
  passed h = rw (← e) (ap not (lt-ltb _ _ h))

pub bounds-holder-master : goal.bounds-holder-master
bounds-holder-master c =
    let p = c.requires in
    (slave_there _ _ _ _ c.slave_at-s.ensures p.sized (slaves_there _ p.slaves)
    c.loop-i-test.true).1

pub returns-then-s-holder : goal.returns-then-s-holder
unfolding file_at
returns-then-s-holder c =
    let t = c.args.holder.now in
    let b = found _ _ t _ _ c.slave_at-s.ensures (omega (arith, c.if-s-holder.true)) in
    sym (any_at _ _ c.loop-i.i c.loop-i-test.true b)

pub loop-i-preserved : goal.loop-i-preserved
loop-i-preserved c =
    let t = c.args.holder.now in any-more _ _ c.loop-i.invariant
    (passed _ _ t _ _ c.slave_at-s.ensures (omega (arith, c.if-s-holder.false)))

pub returns : goal.returns
unfolding file_at
returns c = any-done _ _ _ c.loop-i.auto.i-end c.loop-i-test.false c.loop-i.invariant

pub loop-i-init : goal.loop-i-init
loop-i-init c = any_none _
