-- `depth` meets its contract: each arm is the depth at its kind, and names lower nodes.
use mathlib.Core.Path.{◌≡◌, sym, ap, ap₂, ◌∙◌}
use mathlib.Core.List.{List}
use Prim.Native.Nat.{ℕ, suc, ◌+◌, ◌≤◌, ◌<◌}
use native.Mathlib.Numerals.{add-one}
use native.Mathlib.Omega.{arith}
use lib.ListN.{get_or}
use Rattle.layout.specs.Body.{node_at}
use Rattle.layout.specs.Kind.{byte_of}
use Rattle.layout.specs.declared.body.Shape.{Shape}
use Rattle.layout.specs.declared.record.Node.{Node}
use Rattle.meaning.specs.Numbers.{most_nodes}
use Rattle.meaning.specs.File.{file_at}
use Rattle.meaning.specs.Check.Nodes.{Treed}
use Rattle.notation.specs.Syntax.{larger}
use Rattle.checks.specs.Known.{Sized}
use Rattle.checks.specs.Known.Node.{kind_is, some_kind, lower₁, lower_hidden}
use Rattle.depths.specs.Depths.{depth_at, deepest_by, Depths}
use Rattle.depths.specs.Laws.{deepest_cong, depth₀, depth₁, depth₂, depth_most}
use Rattle.depths.proofs.depth.Goals as goal
use Rattle.depths.proofs.depth.Goals.{After-deepest, After-larger, After-node_at-r, After-result-1, In-Composes}

-- r is node j, and the table t is right below it
module _ (n : Shape) (b : List ℕ) (j : ℕ) (r : Node) (e : r ≡ node_at n b j) (z : Sized n b) (w : Treed (file_at n b))
    (l : j < n.nodes) (t : List ℕ) (h : Depths (file_at n b) t j) where
  arm₀ : r.kind ≡ 0 → deepest_by (file_at n b) t r.a n.slaves + 1 ≡ depth_at (file_at n b) j
  unfolding file_at deepest_by
  arm₀ g =
      let F = file_at n b in let k = kind_is n b j r e 0 g in
      rw (add-one, e)
      (sym
      (depth₀ F w.ordered j l k
      ∙ ap suc
      (sym
      (deepest_cong F.master (λ i. get_or t (F.node i) 0) (F.a j) (λ i. depth_at F (F.node i)) F.slaves
      (λ i m q. h.at (F.node i) (w.ordered.lower₀ j l k i m q))))))

  arm₁ : r.kind ≡ 1 → larger (get_or t r.a 0) (get_or t r.b 0) + 1 ≡ depth_at (file_at n b) j
  unfolding file_at
  arm₁ g =
      let F = file_at n b in let k = kind_is n b j r e 1 g in let u = w.ordered.lower₁ j l k in
      rw (add-one, e)
      (ap₂ (λ (x y : ℕ). suc (larger x y)) (h.at _ u.0) (h.at _ u.1) ∙ sym (depth₁ F w.ordered j l k))

  arm₂ : r.kind ≡ 2 → get_or t r.a 0 + 1 ≡ depth_at (file_at n b) j
  unfolding file_at
  arm₂ g =
      let F = file_at n b in let k = kind_is n b j r e 2 g in
      rw (add-one, e) (ap suc (h.at _ (w.ordered.lower₂ j l k)) ∙ sym (depth₂ F w.ordered j l k))

  -- it is a byte
  fits : depth_at (file_at n b) j ≤ most_nodes
  unfolding file_at
  fits = let m = depth_most (file_at n b) w.ordered j l in let k = z.nodes in omega arith

-- ── what is returned ──

pub of-requires : goal.of-requires
of-requires c =
    let p = c.requires in some_kind _ _ _ _ c.node_at-r.ensures p.0 p.1.0 p.1.1.0

pub returns-in-Holds : goal.returns-in-Holds
returns-in-Holds c =
    let p = c.requires in
    ap (λ z. z + 1) c.deepest.ensures
    ∙ arm₀ _ _ _ _ c.node_at-r.ensures p.0 p.1.0 p.1.1.0 _ p.1.1.1 (sym c.of.ensures ∙ ap byte_of c.in-Holds.is)

pub returns-in-Composes : goal.returns-in-Composes
returns-in-Composes c =
    let p = c.requires in
    ap (λ z. z + 1) c.larger.ensures
    ∙ arm₁ _ _ _ _ c.node_at-r.ensures p.0 p.1.0 p.1.1.0 _ p.1.1.1 (sym c.of.ensures ∙ ap byte_of c.in-Composes.is)

pub returns-in-Hides : goal.returns-in-Hides
returns-in-Hides c =
    let p = c.requires in
    arm₂ _ _ _ _ c.node_at-r.ensures p.0 p.1.0 p.1.1.0 _ p.1.1.1 (sym c.of.ensures ∙ ap byte_of c.in-Hides.is)

-- ── it is a byte ──

low : (c : After-node_at-r)
    → let a = c.args in depth_at (file_at a.n a.body.now) a.j ≤ most_nodes
low c =
    let p = c.requires in
    fits _ _ _ _ c.node_at-r.ensures p.0 p.1.0 p.1.1.0 _ p.1.1.1

pub overflow_add-result : goal.overflow_add-result
overflow_add-result c =
    let e = returns-in-Holds (goal.at.overflow_add-result c).After-deepest in let f = low (goal.at.overflow_add-result c).After-node_at-r in omega arith

pub overflow_add-result-in-Composes : goal.overflow_add-result-in-Composes
overflow_add-result-in-Composes c =
    let e = returns-in-Composes (goal.at.overflow_add-result-in-Composes c).After-larger in let f = low (goal.at.overflow_add-result-in-Composes c).After-node_at-r in omega arith

pub overflow_add-result-in-Hides : goal.overflow_add-result-in-Hides
overflow_add-result-in-Hides c =
    let e = returns-in-Hides (goal.at.overflow_add-result-in-Hides c).After-result-1 in let f = low (goal.at.overflow_add-result-in-Hides c).After-node_at-r in omega arith

-- ── what it names is in the table ──

composed : (c : In-Composes)
    → let r = c.node_at-r.result in (r.a < most_nodes) × (r.b < most_nodes)
composed c =
    let p = c.requires in
    lower₁ _ _ _ _ c.node_at-r.ensures p.0 p.1.0 p.1.1.0 (sym c.of.ensures ∙ ap byte_of c.in-Composes.is)

pub bounds-deep-a-in-Hides : goal.bounds-deep-a-in-Hides
bounds-deep-a-in-Hides c =
    let p = c.requires in
    lower_hidden _ _ _ _ c.node_at-r.ensures p.0 p.1.0 p.1.1.0 (sym c.of.ensures ∙ ap byte_of c.in-Hides.is)

pub bounds-deep-a : goal.bounds-deep-a
bounds-deep-a c = (composed (goal.at.bounds-deep-a c).In-Composes).0

pub bounds-deep-b : goal.bounds-deep-b
bounds-deep-b c = (composed (goal.at.bounds-deep-b c).In-Composes).1
