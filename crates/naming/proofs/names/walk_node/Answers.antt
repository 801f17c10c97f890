-- `names::walk_node` meets its contract: each arm adds what a node of its kind names or holds, at places that 9 keeps
-- in the tables. Assumes nothing.
use mathlib.Core.Path.{◌≡◌, sym, ap, ◌∙◌}
use mathlib.Core.Bool.{false}
use mathlib.Core.List.{List}
use Prim.Native.Nat.{ℕ, ◌+◌, ◌≤◌, ◌<◌}
use native.Mathlib.Omega.{arith}
use lib.ListN.{set}
use Rattle.layout.specs.Body.{node_at}
use Rattle.layout.specs.Kind.{byte_of}
use Rattle.layout.specs.declared.body.Shape.{Shape}
use Rattle.layout.specs.declared.record.Node.{Node}
use Rattle.meaning.specs.Numbers.{most_charts, most_nodes}
use Rattle.meaning.specs.File.{file_at}
use Rattle.meaning.specs.Check.{node_of_kind?}
use Rattle.meaning.specs.Check.Nodes.{kind_at_most, kind₀, kind₁, kind₂, node_passes}
use Rattle.checks.specs.Known.{Ranged}
use Rattle.checks.specs.Walk.{one_more}
use Rattle.naming.specs.Names.{Walked}
use Rattle.naming.specs.Names.Laws.{walked_held, walked_named, walked_first, walked₀, walked₁, walked₂}
use Rattle.naming.proofs.names.walk_node.Goals as goal
use Rattle.naming.proofs.names.walk_node.Goals.{After-way_told-1, After-way_told-in-Hides-1, In-Composes, In-Hides}

-- r is node k
module _ (n : Shape) (b : List ℕ) (k : ℕ) (r : Node) (e : r ≡ node_at n b k) (z : Ranged n b) (l : k < n.nodes) where
  kind_is : (m : ℕ) → r.kind ≡ m → (node_at n b k).kind ≡ m
  kind_is m g = sym (ap (λ (x : Node). x.kind) e) ∙ g

  passes : node_of_kind? (file_at n b) (node_at n b k).kind k ≡ false
  unfolding file_at
  passes = node_passes (file_at n b) z.nodes k l

  some_kind : r.kind ≤ 2
  unfolding file_at
  some_kind = let m = kind_at_most (file_at n b) _ k passes in let d = ap (λ (x : Node). x.kind) e in omega arith

  in₀ : r.kind ≡ 0 → r.a < most_charts
  unfolding file_at
  in₀ g = let m = kind₀ (file_at n b) _ k (kind_is 0 g) passes in let c = z.sized.charts in rw e (omega arith)

  in₁ : r.kind ≡ 1 → (r.a < most_nodes) × (r.b < most_nodes)
  unfolding file_at
  in₁ g = let m = kind₁ (file_at n b) _ k (kind_is 1 g) passes in let c = z.sized.nodes in
      rw e (omega arith, omega arith)

  in₂ : r.kind ≡ 2 → r.a < most_nodes
  unfolding file_at
  in₂ g = let m = kind₂ (file_at n b) _ k (kind_is 2 g) passes in let c = z.sized.nodes in rw e (omega arith)

  module _ (ns hs os : List ℕ) (w : Walked (file_at n b) k ns hs os) where
    next₀ : r.kind ≡ 0 → Walked (file_at n b) (k + 1) ns (one_more hs r.a) (set os r.a k)
    unfolding file_at
    next₀ g = let m = in₀ g in rw e (walked₀ (file_at n b) k ns hs os w (kind_is 0 g) (rw e at m))

    next₁ : r.kind ≡ 1 → Walked (file_at n b) (k + 1) (one_more (one_more ns r.a) r.b) hs os
    unfolding file_at
    next₁ g = let m = in₁ g in rw e (walked₁ (file_at n b) k ns hs os w (kind_is 1 g) (rw e at m.0) (rw e at m.1))

    next₂ : r.kind ≡ 2 → Walked (file_at n b) (k + 1) (one_more ns r.a) hs os
    unfolding file_at
    next₂ g = let m = in₂ g in rw e (walked₂ (file_at n b) k ns hs os w (kind_is 2 g) (rw e at m))

pub of-requires : goal.of-requires
of-requires c = let p = c.requires in some_kind _ _ _ _ c.node_at-r.ensures p.0 p.1.0

-- the places that the arms count at
pub bounds-held-a : goal.bounds-held-a
bounds-held-a c = let p = c.requires in in₀ _ _ _ _ c.node_at-r.ensures p.0 p.1.0 (sym c.of.ensures ∙ ap byte_of c.in-Holds.is)

named-at : (c : In-Composes) → let r = c.node_at-r.result in
    (r.a < most_nodes) × (r.b < most_nodes)
named-at c =
    let p = c.requires in in₁ _ _ _ _ c.node_at-r.ensures p.0 p.1.0 (sym c.of.ensures ∙ ap byte_of c.in-Composes.is)

is_last : (c : In-Hides) → c.node_at-r.result.kind ≡ 2
is_last c = sym c.of.ensures ∙ ap byte_of c.in-Hides.is

pub bounds-named-a-in-Hides : goal.bounds-named-a-in-Hides
bounds-named-a-in-Hides c =
    let p = c.requires in in₂ _ _ _ _ c.node_at-r.ensures p.0 p.1.0 (is_last (goal.at.bounds-named-a-in-Hides c).In-Hides)

-- a byte holds what they count
pub overflow_add-held : goal.overflow_add-held
overflow_add-held c =
    let p = c.requires in
    omega (arith, walked_held _ _ _ _ _ p.1.1 _ (bounds-held-a (goal.at.overflow_add-held c).After-way_told-1), p.0.sized.nodes)

pub overflow_add-named : goal.overflow_add-named
unfolding file_at
overflow_add-named c =
    let p = c.requires in
    omega (arith, walked_named _ _ _ _ _ p.1.1 _ (named-at (goal.at.overflow_add-named c).In-Composes).0, p.0.sized.nodes, p.0.sized.slaves)

pub overflow_add-named-in-Composes : goal.overflow_add-named-in-Composes
unfolding file_at
overflow_add-named-in-Composes c =
    let p = c.requires in
    let m = named-at (goal.at.overflow_add-named-in-Composes c).In-Composes in
    omega (arith, walked_first _ _ _ _ _ p.1.1 _ _ m.0 m.1, p.0.sized.nodes, p.0.sized.slaves)

pub overflow_add-named-in-Hides : goal.overflow_add-named-in-Hides
unfolding file_at
overflow_add-named-in-Hides c =
    let p = c.requires in
    omega (arith, walked_named _ _ _ _ _ p.1.1 _ (bounds-named-a-in-Hides (goal.at.overflow_add-named-in-Hides c).After-way_told-in-Hides-1), p.0.sized.nodes, p.0.sized.slaves)

pub returns-in-Holds : goal.returns-in-Holds
returns-in-Holds c =
    let p = c.requires in
    next₀ _ _ _ _ c.node_at-r.ensures p.0 p.1.0 _ _ _ p.1.1 (sym c.of.ensures ∙ ap byte_of c.in-Holds.is)

pub returns-in-Composes : goal.returns-in-Composes
returns-in-Composes c =
    let p = c.requires in
    next₁ _ _ _ _ c.node_at-r.ensures p.0 p.1.0 _ _ _ p.1.1 (sym c.of.ensures ∙ ap byte_of c.in-Composes.is)

pub returns-in-Hides : goal.returns-in-Hides
returns-in-Hides c =
    let p = c.requires in
    next₂ _ _ _ _ c.node_at-r.ensures p.0 p.1.0 _ _ _ p.1.1 (is_last (goal.at.returns-in-Hides c).In-Hides)

pub bounds-held-a-in-Holds : goal.bounds-held-a-in-Holds
bounds-held-a-in-Holds c = bounds-held-a (goal.at.bounds-held-a-in-Holds c).After-way_told-1

pub bounds-holder-a : goal.bounds-holder-a
bounds-holder-a c = bounds-held-a (goal.at.bounds-holder-a c).After-way_told-1

pub bounds-named-a : goal.bounds-named-a
bounds-named-a c = (named-at (goal.at.bounds-named-a c).In-Composes).0

pub bounds-named-a-in-Composes : goal.bounds-named-a-in-Composes
bounds-named-a-in-Composes c = (named-at (goal.at.bounds-named-a-in-Composes c).In-Composes).0

pub bounds-named-b : goal.bounds-named-b
bounds-named-b c = (named-at (goal.at.bounds-named-b c).In-Composes).1

pub bounds-named-b-in-Composes : goal.bounds-named-b-in-Composes
bounds-named-b-in-Composes c = (named-at (goal.at.bounds-named-b-in-Composes c).In-Composes).1

pub bounds-named-a-in-Hides-2 : goal.bounds-named-a-in-Hides-2
bounds-named-a-in-Hides-2 c =
    bounds-named-a-in-Hides (goal.at.bounds-named-a-in-Hides-2 c).After-way_told-in-Hides-1
