-- `inside::lowest` meets its contract: each arm is the lowest chart at its kind, and names lower nodes. Assumes
-- nothing.
use mathlib.Core.Path.{◌≡◌, sym, ap, ap₂, ◌∙◌}
use mathlib.Core.List.{List}
use Prim.Native.Nat.{ℕ, ◌<◌}
use borrow.Author.Tests.{lt-ltb, le-ltb}
use lib.ListN.{get_or}
use Rattle.layout.specs.Body.{node_at}
use Rattle.layout.specs.Kind.{byte_of}
use Rattle.layout.specs.declared.body.Shape.{Shape}
use Rattle.layout.specs.declared.record.Node.{Node}
use Rattle.meaning.specs.Numbers.{most_nodes}
use Rattle.meaning.specs.File.{file_at, tree_of}
use Rattle.meaning.specs.Check.Nodes.{Treed}
use Rattle.naming.specs.Inside.{lower, lowest, Lows}
use Rattle.naming.specs.Inside.Laws.{lowest₀, lowest₁, lowest₂}
use Rattle.checks.specs.Known.Node.{kind_is, some_kind, lower₁, lower_hidden}
use Rattle.naming.proofs.inside.lowest.Goals as goal
use Rattle.naming.proofs.inside.lowest.Goals.{In-Composes}

-- r is node j, and the table t is right below it
module _ (n : Shape) (b : List ℕ) (j : ℕ) (r : Node) (e : r ≡ node_at n b j) (w : Treed (file_at n b)) (l : j < n.nodes)
    (t : List ℕ) (h : Lows (file_at n b) t j) where
  arm₀ : r.kind ≡ 0 → r.a ≡ lowest (tree_of (file_at n b) j)
  unfolding file_at
  arm₀ k = ap (λ (x : Node). x.a) e ∙ sym (lowest₀ (file_at n b) w j l (kind_is n b j r e 0 k))

  arm₁ : r.kind ≡ 1 → lower (get_or t r.a 0) (get_or t r.b 0) ≡ lowest (tree_of (file_at n b) j)
  unfolding file_at
  arm₁ k =
      let g = kind_is n b j r e 1 k in
      let u = w.ordered.lower₁ j l g in
      rw e (ap₂ (λ (x y : ℕ). lower x y) (h.at _ u.0) (h.at _ u.1) ∙ sym (lowest₁ (file_at n b) w j l g))

  arm₂ : r.kind ≡ 2 → get_or t r.a 0 ≡ lowest (tree_of (file_at n b) j)
  unfolding file_at
  arm₂ k =
      let g = kind_is n b j r e 2 k in
      rw e (h.at _ (w.ordered.lower₂ j l g) ∙ sym (lowest₂ (file_at n b) w j l g))

pub of-requires : goal.of-requires
of-requires c =
    let p = c.requires in
    some_kind _ _ _ _ c.node_at-r.ensures p.0 p.1.0 p.1.1.0

-- the nodes that a composed node names are in the table
named : (c : In-Composes) → let r = c.node_at-r.result in
    (r.a < most_nodes) × (r.b < most_nodes)
named c =
    let p = c.requires in
    lower₁ _ _ _ _ c.node_at-r.ensures p.0 p.1.0 p.1.1.0 (sym c.of.ensures ∙ ap byte_of c.in-Composes.is)

pub bounds-low-a-in-Hides : goal.bounds-low-a-in-Hides
bounds-low-a-in-Hides c =
    let p = c.requires in
    lower_hidden _ _ _ _ c.node_at-r.ensures p.0 p.1.0 p.1.1.0 (sym c.of.ensures ∙ ap byte_of c.in-Hides.is)

-- the lower of the two
composed : (c : In-Composes) → let a = c.args in
    let r = c.node_at-r.result in
    lower (get_or a.low.now r.a 0) (get_or a.low.now r.b 0)
    ≡ lowest (tree_of (file_at a.n a.body.now) a.j)
composed c =
    let p = c.requires in
    arm₁ _ _ _ _ c.node_at-r.ensures p.1.0 p.1.1.0 _ p.1.1.1 (sym c.of.ensures ∙ ap byte_of c.in-Composes.is)

pub returns-in-Holds : goal.returns-in-Holds
returns-in-Holds c =
    let p = c.requires in
    arm₀ _ _ _ _ c.node_at-r.ensures p.1.0 p.1.1.0 _ p.1.1.1 (sym c.of.ensures ∙ ap byte_of c.in-Holds.is)

pub returns-then-low-a : goal.returns-then-low-a
returns-then-low-a c = rw (lt-ltb _ _ c.if-low-a.true) at (composed (goal.at.returns-then-low-a c).In-Composes)

pub returns-else-low-a : goal.returns-else-low-a
returns-else-low-a c = rw (le-ltb _ _ c.if-low-a.false) at (composed (goal.at.returns-else-low-a c).In-Composes)

pub returns-in-Hides : goal.returns-in-Hides
returns-in-Hides c =
    let p = c.requires in
    arm₂ _ _ _ _ c.node_at-r.ensures p.1.0 p.1.1.0 _ p.1.1.1
    (sym c.of.ensures ∙ ap byte_of c.in-Hides.is)

pub bounds-low-a : goal.bounds-low-a
bounds-low-a c = (named (goal.at.bounds-low-a c).In-Composes).0

pub bounds-low-b : goal.bounds-low-b
bounds-low-b c = (named (goal.at.bounds-low-b c).In-Composes).1

pub bounds-low-a-then-low-a : goal.bounds-low-a-then-low-a
bounds-low-a-then-low-a c = (named (goal.at.bounds-low-a-then-low-a c).In-Composes).0

pub bounds-low-b-else-low-a : goal.bounds-low-b-else-low-a
bounds-low-b-else-low-a c = (named (goal.at.bounds-low-b-else-low-a c).In-Composes).1
