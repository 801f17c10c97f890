use mathlib.Core.Path.{◌≡◌}
use mathlib.Core.List.{List}
use Prim.Native.Nat.{ℕ, ◌+◌, ◌≤◌, ◌<◌}
use native.Mathlib.Omega.{arith}
use lib.ListN.{get_or}
use Rattle.layout.specs.Body.{slave_at}
use Rattle.layout.specs.declared.body.Shape.{Shape}
use Rattle.layout.specs.declared.record.Slave.{Slave}
use Rattle.meaning.specs.Numbers.{most_nodes}
use Rattle.meaning.specs.File.{file_at}
use Rattle.meaning.specs.Check.Nodes.{slaves_there}
use Rattle.checks.specs.Walk.{Table, one_more}
use Rattle.checks.specs.Walk.Laws.{table_none, table_more}
use Rattle.parts.specs.Parts.Laws.{slave_there}
use Rattle.naming.specs.Names.{named_by}
use Rattle.naming.specs.Names.Laws.{named_none, named-slave, named_most}
use Rattle.naming.proofs.names.named_by_slaves.Goals as goal
use Rattle.naming.proofs.names.named_by_slaves.Goals.{After-slave_at-s}

-- s is slave i
module _ (n : Shape) (b : List ℕ) (i : ℕ) (s : Slave) (e : s ≡ slave_at n b i) (l : s.node < most_nodes) (t : List ℕ)
    (h : Table most_nodes (named_by (file_at n b) i 0) t) where
  few : get_or t s.node 0 ≤ i
  few = rw (h.at s.node l) (omega (arith, named_most (file_at n b) i 0 s.node))

  next : Table most_nodes (named_by (file_at n b) (i + 1) 0) (one_more t s.node)
  unfolding file_at
  next = rw e (table_more _ _ _ t _ h (rw e at l) (named-slave (file_at n b) i))

node_in : (c : After-slave_at-s) → c.slave_at-s.result.node < most_nodes
node_in c =
    let p = c.requires in
    (slave_there _ _ _ _ c.slave_at-s.ensures p.sized (slaves_there _ p.slaves)
    c.loop-i-test.true).0

pub overflow_add-named : goal.overflow_add-named
overflow_add-named c =
    let p = c.requires in
    omega (
      arith,
      few _ _ _ _ c.slave_at-s.ensures (node_in (goal.at.overflow_add-named c).After-slave_at-s) _ c.loop-i.invariant,
      p.sized.slaves,
    )

pub loop-i-preserved : goal.loop-i-preserved
loop-i-preserved c = next _ _ _ _ c.slave_at-s.ensures (node_in (goal.at.loop-i-preserved c).After-slave_at-s) _ c.loop-i.invariant

pub returns : goal.returns
returns c = let e : c.loop-i.i ≡ c.args.n.slaves = omega arith in rw e at c.loop-i.invariant

pub loop-i-init : goal.loop-i-init
loop-i-init c = table_none most_nodes _ (named_none _)

pub bounds-named-node : goal.bounds-named-node
bounds-named-node c = node_in (goal.at.bounds-named-node c).After-slave_at-s

pub bounds-named-node-in-loop-i : goal.bounds-named-node-in-loop-i
bounds-named-node-in-loop-i c = node_in (goal.at.bounds-named-node-in-loop-i c).After-slave_at-s
