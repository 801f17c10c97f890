-- Two files that agree on all that is read have the same trees. A file and what is read of its bytes agree so.
use Rattle.std.specs.Prelude.{◌≡◌, Bool, true, false, cond}
use Rattle.std.proofs.Math.Path.{refl, ap, ap₂}
use Rattle.std.proofs.Common.{◌∙◌, arith}
use Prim.Native.Nat.{ℕ, zero, suc, ◌<◌}
use Rattle.layout.specs.declared.record.Node.{Node}
use Rattle.meaning.specs.Meaning.{same, Tree, comp, hide, snoc}
use Rattle.meaning.specs.File.{File, by_kind, whole, gather, build, tree_of, file_at}
use Rattle.meaning.specs.Rewriting.{shape_in, body_bytes}
use Rattle.meaning.specs.Laws.Bools.{same→≡}
use Rattle.meaning.specs.Laws.Trees.{Ordered}
use Rattle.agreement.specs.Encoded.{Fits, slave_in, node_in, chart-back, slave_is, node_is}

-- G has all that is read of F
pub record Reads (F G : File) : Type 0 where
  pub charts : G.charts ≡ F.charts
  pub chart : (c : ℕ) → c < F.charts → G.chart c ≡ F.chart c
  pub slaves : G.slaves ≡ F.slaves
  pub slave : (i : ℕ) → i < F.slaves → slave_in G i ≡ slave_in F i
  pub nodes : G.nodes ≡ F.nodes
  pub node : (j : ℕ) → j < F.nodes → node_in G j ≡ node_in F j

pub reads_back : (F : File) → Fits F → Reads F (file_at (shape_in F) (body_bytes F))
unfolding file_at shape_in
reads_back F ft = record {
  charts = refl;
  chart = chart-back F ft;
  slaves = refl;
  slave = slave_is F ft;
  nodes = refl;
  node = node_is F ft;
}

gather-same : (m m' : ℕ → ℕ) (g g' : ℕ → Tree) (c k : ℕ) → ((i : ℕ) → i < k → m' i ≡ m i)
    → ((i : ℕ) → i < k → m i ≡ c → g' i ≡ g i)
    → gather m' g' c k ≡ gather m g c k
unfolding gather
gather-same m m' g g' c zero p e = refl
gather-same m m' g g' c (suc k) p e =
    ap (λ z. cond (same z c) (snoc (gather m' g' c k) k (g' k)) (gather m' g' c k)) (p k (omega arith))
    ∙ go (same (m k) c) refl (gather-same m m' g g' c k (λ i l. p i (omega arith)) (λ i l. e i (omega arith)))
  where
    go : (b : Bool) → same (m k) c ≡ b → gather m' g' c k ≡ gather m g c k
        → cond b (snoc (gather m' g' c k) k (g' k)) (gather m' g' c k)
        ≡ cond b (snoc (gather m g c k) k (g k)) (gather m g c k)
    go true q r = ap₂ (λ s t. snoc s k t) r (e k (omega arith) (same→≡ (m k) c q))
    go false q r = r

module _ (F G : File) (rd : Reads F G) (w : Ordered F) where
  -- by the node's fields
  abbrev made : ℕ → Node → Tree
  made f d = by_kind d.kind (whole d.a (gather G.master (λ i. build G f (G.node i)) d.a G.slaves))
      (comp (build G f d.a) (build G f d.b) d.x) (hide (build G f d.a) d.x d.y)

  pub build-same : (f j : ℕ) → j < F.nodes → build G f j ≡ build F f j
  unfolding build
  build-same zero j l = refl
  build-same (suc f) j l = ap (made f) (rd.node j l) ∙ go (F.kind j) refl (λ i m. build-same f i (omega arith))
    where
      go : (k : ℕ) → F.kind j ≡ k → ((i : ℕ) → i < j → build G f i ≡ build F f i)
          → by_kind k (whole (F.a j) (gather G.master (λ i. build G f (G.node i)) (F.a j) G.slaves))
          (comp (build G f (F.a j)) (build G f (F.b j)) (F.x j)) (hide (build G f (F.a j)) (F.x j) (F.y j))
          ≡ by_kind k (whole (F.a j) (gather F.master (λ i. build F f (F.node i)) (F.a j) F.slaves))
          (comp (build F f (F.a j)) (build F f (F.b j)) (F.x j)) (hide (build F f (F.a j)) (F.x j) (F.y j))
      go zero e ih = ap (λ n. whole (F.a j) (gather G.master (λ i. build G f (G.node i)) (F.a j) n)) rd.slaves
          ∙ ap (whole (F.a j)) (gather-same F.master G.master (λ i. build F f (F.node i))
          (λ i. build G f (G.node i)) (F.a j) F.slaves
          (λ i m. ap (λ s. s.chart) (rd.slave i m))
          (λ i m q. ap (λ s. build G f s.node) (rd.slave i m) ∙ ih (F.node i) (w.lower₀ j l e i m q)))
      go (suc zero) e ih = let h = w.lower₁ j l e in
          ap₂ (λ p q. comp p q (F.x j)) (ih (F.a j) h.0) (ih (F.b j) h.1)
      go (suc (suc k)) e ih =
          ap (λ p. hide p (F.x j) (F.y j)) (ih (F.a j) (w.lower₂ j l (let h = w.kinds j l in omega arith)))

  pub tree_same : (j : ℕ) → j < F.nodes → tree_of G j ≡ tree_of F j
  unfolding tree_of
  tree_same j l = build-same (suc j) j l
