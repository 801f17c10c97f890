-- A node's record that was read: its parts are lower, and its chart is one of the file's.
use mathlib.Core.Path.{◌≡◌, sym, ◌∙◌}
use mathlib.Core.List.{List}
use Prim.Native.Nat.{ℕ, ◌≤◌, ◌<◌}
use native.Mathlib.Omega.{arith}
use Rattle.layout.specs.Body.{node_at}
use Rattle.layout.specs.declared.body.Shape.{Shape}
use Rattle.layout.specs.declared.record.Node.{Node}
use Rattle.meaning.specs.File.{file_at}
use Rattle.nesting.specs.Known.{Wirable}
use Rattle.nesting.proofs.Records.{is_node, lower-a, lower-b}

module _ {n : Shape} {b : List ℕ} (w : Wirable n b) {j : ℕ} (p : j < n.nodes) {r : Node} (e : r ≡ node_at n b j) where
  pub lower_hide : r.kind ≡ 2 → r.a < j
  unfolding file_at
  lower_hide k = lower-a _ w.sound p (is_node n b j e) (λ z. omega arith)

  pub lower_comp : r.kind ≡ 1 → (r.a < j) × (r.b < j)
  unfolding file_at
  lower_comp k =
      (lower-a _ w.sound p (is_node n b j e) (λ z. omega arith), lower-b _ w.sound p (is_node n b j e) k)

  pub some_kind : r.kind ≤ 2
  unfolding file_at
  some_kind = let i = is_node n b j e in let h = w.sound.ordered.kinds j p in omega (arith, i.kind)

  pub below-charts : r.kind ≡ 0 → r.a < n.charts
  unfolding file_at
  below-charts k = let i = is_node n b j e in let h = w.sound.chart_there j p (sym i.kind ∙ k) in
      omega (arith, i.a)
