-- Records of a body as they were read. In order: a node's and a slave's fields are the file's (is-node, is-slave); the
-- nodes that a node names are lower than it (lower-a, lower-b). Assumes nothing.
use mathlib.Core.Path.{◌≡◌, sym, ap, ◌∙◌}
use mathlib.Core.List.{List}
use mathlib.Core.Logic.{⊎_elim}
use Prim.Native.Nat.{ℕ, ◌<◌}
use native.Mathlib.Omega.{arith}
use Rattle.layout.specs.Body.{slave_at, node_at}
use Rattle.layout.specs.declared.body.Shape.{Shape}
use Rattle.layout.specs.declared.record.Slave.{Slave}
use Rattle.layout.specs.declared.record.Node.{Node}
use Rattle.meaning.specs.File.{File, file_at}
use Rattle.meaning.specs.Check.Nodes.{Sound}
use Rattle.meaning.specs.Check.Laws.{eq_or-not}

-- ── the fields ──

pub record Is (F : File) (j : ℕ) (r : Node) : Type 0 where
  pub kind : r.kind ≡ F.kind j
  pub a : r.a ≡ F.a j
  pub b : r.b ≡ F.b j
  pub x : r.x ≡ F.x j
  pub y : r.y ≡ F.y j

pub record IsSlave (F : File) (i : ℕ) (s : Slave) : Type 0 where
  pub chart : s.chart ≡ F.master i
  pub state : s.state ≡ F.state i
  pub node : s.node ≡ F.node i

module _ (n : Shape) (b : List ℕ) where
  pub is_node : (j : ℕ) {r : Node} → r ≡ node_at n b j → Is (file_at n b) j r
  unfolding file_at
  is_node j e =
      record {
        kind = ap (λ (r : Node). r.kind) e;
        a = ap (λ (r : Node). r.a) e;
        b = ap (λ (r : Node). r.b) e;
        x = ap (λ (r : Node). r.x) e;
        y = ap (λ (r : Node). r.y) e;
      }

  pub is_slave : (i : ℕ) {s : Slave} → s ≡ slave_at n b i → IsSlave (file_at n b) i s
  unfolding file_at
  is_slave i e =
      record {
        chart = ap (λ (s : Slave). s.chart) e;
        state = ap (λ (s : Slave). s.state) e;
        node = ap (λ (s : Slave). s.node) e;
      }

-- ── the nodes that it names ──

module _ (F : File) (s : Sound F) {j : ℕ} (p : j < F.nodes) {n : Node} (is : Is F j n) where
  pub lower-a : (n.kind ≡ 0 → ⊥) → n.a < j
  lower-a k₀ =
      ⊎_elim
      (λ e. let t = s.ordered.lower₁ j p (sym is.kind ∙ e) in let z = is.a in omega arith)
      (λ e. let u = s.ordered.kinds j p in let y = is.kind in let t = s.ordered.lower₂ j p (omega arith) in
      let z = is.a in omega arith)
      (eq_or-not n.kind 1)

  pub lower-b : n.kind ≡ 1 → n.b < j
  lower-b k = let t = s.ordered.lower₁ j p (sym is.kind ∙ k) in let z = is.b in omega arith
