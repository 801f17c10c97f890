-- `slaves::bad_slave` meets its contract: it tests the four parts of the definition in turn. Assumes nothing.
use mathlib.Core.Path.{◌≡◌, refl, ap, ◌∙◌}
use mathlib.Core.Bool.{true, false, not}
use mathlib.Core.List.{List}
use Prim.Native.Nat.{ℕ, zero, suc, ◌-◌, ◌≤◌, ◌<◌}
use native.Mathlib.Omega.{arith}
use borrow.Author.Tests.{lt-ltb, le-ltb}
use Rattle.layout.specs.Body.{head_at, slave_at}
use Rattle.layout.specs.declared.body.Shape.{Shape}
use Rattle.layout.specs.declared.record.Slave.{Slave}
use Rattle.layout.specs.declared.record.Head.{Head}
use Rattle.meaning.specs.File.{File, file_at, chart_of}
use Rattle.meaning.specs.Check.{rising, in_order_at, slave?}
use Rattle.naming.proofs.slaves.bad_slave.Goals as goal
use Rattle.naming.proofs.slaves.bad_slave.Goals.{Else-s-n}

-- s is the slave, m its master's head
module _ (n : Shape) (b : List ℕ) (i : ℕ) (s : Slave) (es : s ≡ slave_at n b i) where
  no_chart : n.charts ≤ s.chart → true ≡ slave? (file_at n b) i
  unfolding slave? file_at
  no_chart h = rw (← es, le-ltb s.chart n.charts h)

  module _ (h : s.chart < n.charts) (m : Head) (em : m ≡ head_at n b s.chart) where
    no_state : m.states ≤ s.state → true ≡ slave? (file_at n b) i
    unfolding slave? file_at chart_of
    no_state k = rw (← es, lt-ltb s.chart n.charts h, ← em, le-ltb s.state m.states k)

    module _ (k : s.state < m.states) where
      no_node : n.nodes ≤ s.node → true ≡ slave? (file_at n b) i
      unfolding slave? file_at chart_of
      no_node l = rw
          (← es, lt-ltb s.chart n.charts h, ← em, lt-ltb s.state m.states k, le-ltb s.node n.nodes l)

      by_order : s.node < n.nodes → not (in_order_at (file_at n b) i) ≡ slave? (file_at n b) i
      unfolding slave? file_at chart_of
      by_order l = rw
          (← es, lt-ltb s.chart n.charts h, ← em, lt-ltb s.state m.states k, lt-ltb s.node n.nodes l)

-- the first slave, and one that is not
first : (F : File) (i : ℕ) → i ≡ 0 → false ≡ not (in_order_at F i)
first F zero h = refl
first F (suc i) h = absurd (omega arith)

after : (F : File) (i : ℕ) → (i ≡ 0 → ⊥) → rising F (i - 1) i ≡ in_order_at F i
after F zero h = absurd (h refl)
after F (suc i) h = ap (λ (k : ℕ). rising F k (suc i)) (omega arith)

pub returns-then-c-n : goal.returns-then-c-n
returns-then-c-n c = no_chart _ _ _ _ c.slave_at-s.ensures c.if-c-n.true

pub returns-then-s-master : goal.returns-then-s-master
returns-then-s-master c =
    no_state _ _ _ _ c.slave_at-s.ensures c.if-c-n.false _
    c.head_at-master.ensures c.if-s-master.true

pub returns-then-s-n : goal.returns-then-s-n
returns-then-s-n c =
    no_node _ _ _ _ c.slave_at-s.ensures c.if-c-n.false _
    c.head_at-master.ensures c.if-s-master.false
    c.if-s-n.true

-- where all but the order is tested
ordered : (c : Else-s-n)
    → let a = c.args in
    not (in_order_at (file_at a.n a.body.now) a.i) ≡ slave? (file_at a.n a.body.now) a.i
ordered c =
    by_order _ _ _ _ c.slave_at-s.ensures c.if-c-n.false _
    c.head_at-master.ensures c.if-s-master.false
    c.if-s-n.false

pub returns-then-i-eq0 : goal.returns-then-i-eq0
returns-then-i-eq0 c = first _ _ c.if-i-eq0.true ∙ ordered (goal.at.returns-then-i-eq0 c).Else-s-n

pub returns : goal.returns
returns c = ap not (c.rising.ensures ∙ after _ _ c.if-i-eq0.false) ∙ ordered (goal.at.returns c).Else-s-n
