-- A node as it is read: what it names is in a table of charts or nodes. Assumes nothing.
use Rattle.std.specs.Prelude.{◌≡◌, List, ℕ, ◌≤◌, ◌<◌}
use Rattle.std.proofs.Common.{sym, ◌∙◌}
use Rattle.std.proofs.Math.Path.{ap}
use native.Mathlib.Omega.{arith}
use Rattle.layout.specs.Body.{node_at}
use Rattle.layout.specs.declared.body.Shape.{Shape}
use Rattle.layout.specs.declared.record.Node.{Node}
use Rattle.meaning.specs.Numbers.{most_charts, most_nodes}
use Rattle.meaning.specs.File.{file_at}
use Rattle.meaning.specs.Check.Nodes.{Treed}
use Rattle.checks.specs.Known.{Sized}

-- r is node j
module _ (n : Shape) (b : List ℕ) (j : ℕ) (r : Node) (e : r ≡ node_at n b j) where
  pub kind_is : (k : ℕ) → r.kind ≡ k → (node_at n b j).kind ≡ k
  kind_is k h = sym (ap (λ (x : Node). x.kind) e) ∙ h

  module _ (z : Sized n b) (w : Treed (file_at n b)) (l : j < n.nodes) where
    pub chart₀ : r.kind ≡ 0 → r.a < most_charts
    unfolding file_at
    chart₀ h = let m = w.chart_there j l (kind_is 0 h) in let k = z.charts in rw e (omega arith)

    pub lower₁ : r.kind ≡ 1 → (r.a < most_nodes) × (r.b < most_nodes)
    unfolding file_at
    lower₁ h = let m = w.ordered.lower₁ j l (kind_is 1 h) in let k = z.nodes in rw e (omega arith, omega arith)

    pub some_kind : r.kind ≤ 2
    unfolding file_at
    some_kind = let t = w.ordered.kinds j l in let d = ap (λ (x : Node). x.kind) e in omega arith

    pub lower_hidden : r.kind ≡ 2 → r.a < most_nodes
    unfolding file_at
    lower_hidden h = let m = w.ordered.lower₂ j l (kind_is 2 h) in let k = z.nodes in rw e (omega arith)

    pub kind₂ : (r.kind ≡ 0 → ⊥) → (r.kind ≡ 1 → ⊥) → r.kind ≡ 2
    unfolding file_at
    kind₂ f g = let t = w.ordered.kinds j l in let d = ap (λ (x : Node). x.kind) e in omega arith

    pub lower₂ : (r.kind ≡ 0 → ⊥) → (r.kind ≡ 1 → ⊥) → r.a < most_nodes
    lower₂ f g = lower_hidden (kind₂ f g)
