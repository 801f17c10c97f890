-- Over the records of a file: a and b are exchanged in some of its composed nodes (`Turned`). In this order: the trees
-- of its nodes; tests 8 to 11; that all answers are alike (`turned_alike`).
use Rattle.std.specs.Prelude.{◌≡◌, Bool, cond}
use Rattle.std.proofs.Math.Path.{refl, ap, ap₂, subst}
use Rattle.std.proofs.Common.{sym, ◌∙◌, arith}
use Rattle.std.proofs.Math.Bool.{true, false, ◌&&◌, ◌||◌, not, or_comm}
use Prim.Native.Nat.{ℕ, zero, suc, ◌+◌, ◌-◌, ◌<◌, ◌≤◌}
use Rattle.std.proofs.Math.Dec.{ltb}
use Rattle.layout.specs.declared.record.Node.{Node}
use Rattle.meaning.specs.Sums.{any_up_to, tally, one}
use Rattle.meaning.specs.Sums.Laws.{any_cong, tally_cong}
use Rattle.meaning.specs.Meaning.{∅, same, Tree, Slaves, comp, hide, snoc}
use Rattle.meaning.specs.File.{File, by_kind, whole, gather, build, tree_of, whole_of, Has, HasS}
use Rattle.meaning.specs.Check.{not_below, differ, rising, in_order_at, slave?, slaves?, node_of_kind?, nodes?, holds}
use Rattle.meaning.specs.Check.{held}
use Rattle.meaning.specs.Check.{names, named, naming?, inside?}
use Rattle.meaning.specs.Check.Laws.{below}
use Rattle.meaning.specs.Check.Nodes.{Treed}
use Rattle.meaning.specs.Rewriting.{union_up_to}
use Rattle.meaning.specs.Laws.Bools.{same→≡}
use Rattle.agreement.specs.Encoded.{slave_in, node_in}
use Rattle.propositions.specs.Exchange.Trees.{Exchanged, Slaved, chart, parts, turned, inside, master, none}
use Rattle.propositions.specs.Exchange.Trees.{more}
use Rattle.propositions.proofs.Exchange.Answers.{TreesAlike, union_alike}

-- a node with a and b exchanged
abbrev pub exchanged : Node → Node
exchanged d = record { kind = d.kind; a = d.b; b = d.a; x = d.x; y = d.y }

-- a node, and what stands in its place: the same, or, if it is composed, the node with a and b exchanged
pub data Stands (d d' : Node) : Type 0 where
  kept : d' ≡ d → Stands d d'
  swapped : d.kind ≡ 1 → d' ≡ exchanged d → Stands d d'

-- G is F with a and b exchanged in some composed nodes; records past the counts, which nobody reads, may differ
pub record Turned (F G : File) : Type 0 where
  pub charts : G.charts ≡ F.charts
  pub chart : (c : ℕ) → c < F.charts → G.chart c ≡ F.chart c
  pub slaves : G.slaves ≡ F.slaves
  pub slave : (i : ℕ) → i < F.slaves → slave_in G i ≡ slave_in F i
  pub nodes : G.nodes ≡ F.nodes
  pub node : (j : ℕ) → j < F.nodes → Stands (node_in F j) (node_in G j)

-- ── the trees ──

module _ (F G : File) (r : Turned F G) where
  abbrev Ex : Tree → Tree → Type 0
  Ex = Exchanged F.chart G.chart F.state G.state

  abbrev Sl : Slaves → Slaves → Type 0
  Sl = Slaved F.chart G.chart F.state G.state

  gathered : (g g' : ℕ → Tree) (c k : ℕ) → k ≤ F.slaves → ((i : ℕ) → i < k → F.master i ≡ c → Ex (g i) (g' i))
      → Sl (gather F.master g c k) (gather G.master g' c k)
  unfolding gather
  gathered g g' c zero l h = none
  gathered g g' c (suc k) l h =
      subst (λ z. Sl (gather F.master g c (suc k))
      (cond (same z c) (snoc (gather G.master g' c k) k (g' k)) (gather G.master g' c k)))
      (sym (ap (λ s. s.chart) (r.slave k (omega arith))))
      (go (same (F.master k) c) refl (gathered g g' c k (omega arith) (λ i m. h i (omega arith))))
    where
      go : (b : Bool) → same (F.master k) c ≡ b → Sl (gather F.master g c k) (gather G.master g' c k)
          → Sl (cond b (snoc (gather F.master g c k) k (g k)) (gather F.master g c k))
          (cond b (snoc (gather G.master g' c k) k (g' k)) (gather G.master g' c k))
      go true q u = more u (ap (λ s. s.state) (r.slave k (omega arith)))
          (h k (omega arith) (same→≡ (F.master k) c q))
      go false q u = u

  wholes : (c : ℕ) (ss ss' : Slaves) → c < F.charts → Sl ss ss' → Ex (whole c ss) (whole c ss')
  wholes c ss ss' l none = chart (r.chart c l)
  wholes c ss ss' l (more u e v) = master (r.chart c l) (more u e v)

  module _ (w : Treed F) where
    -- the tree that a node makes in G
    abbrev made : ℕ → Node → Tree
    made f d = by_kind d.kind (whole d.a (gather G.master (λ i. build G f (G.node i)) d.a G.slaves))
        (comp (build G f d.a) (build G f d.b) d.x) (hide (build G f d.a) d.x d.y)

    -- one node, if the trees of lower ones are exchanged
    module _ (f j : ℕ) (l : j < F.nodes) (ih : (i : ℕ) → i < j → Ex (build F f i) (build G f i)) where
      keeps : (k : ℕ) → F.kind j ≡ k
          → Ex (by_kind k (whole (F.a j) (gather F.master (λ i. build F f (F.node i)) (F.a j) F.slaves))
          (comp (build F f (F.a j)) (build F f (F.b j)) (F.x j)) (hide (build F f (F.a j)) (F.x j) (F.y j)))
          (by_kind k (whole (F.a j) (gather G.master (λ i. build G f (G.node i)) (F.a j) G.slaves))
          (comp (build G f (F.a j)) (build G f (F.b j)) (F.x j)) (hide (build G f (F.a j)) (F.x j) (F.y j)))
      keeps zero e = subst (λ n. Ex
          (whole (F.a j) (gather F.master (λ i. build F f (F.node i)) (F.a j) F.slaves))
          (whole (F.a j) (gather G.master (λ i. build G f (G.node i)) (F.a j) n))) (sym r.slaves)
          (wholes (F.a j) _ _ (w.chart_there j l e)
          (gathered (λ i. build F f (F.node i)) (λ i. build G f (G.node i)) (F.a j) F.slaves (omega arith)
          (λ i m q. subst (λ z. Ex (build F f (F.node i)) (build G f z)) (sym (ap (λ s. s.node) (r.slave i m)))
          (ih (F.node i) (w.ordered.lower₀ j l e i m q)))))
      keeps (suc zero) e = let h = w.ordered.lower₁ j l e in parts (ih (F.a j) h.0) (ih (F.b j) h.1)
      keeps (suc (suc k)) e = inside
          (ih (F.a j) (w.ordered.lower₂ j l (let h = w.ordered.kinds j l in omega arith)))

      stands : (d : Node) → Stands (node_in F j) d → Ex (build F (suc f) j) (made f d)
      unfolding build
      stands d (kept e) = rw e (keeps (F.kind j) refl)
      stands d (swapped k e) = let h = w.ordered.lower₁ j l k in
          rw (e, k) (turned (ih (F.a j) h.0) (ih (F.b j) h.1))

    build-turned : (f j : ℕ) → j < f → j < F.nodes → Ex (build F f j) (build G f j)
    unfolding build
    build-turned zero j p l = absurd (omega arith)
    build-turned (suc f) j p l =
        stands f j l (λ i m. build-turned f i (omega arith) (omega arith)) (node_in G j) (r.node j l)

    pub tree_turned : (j : ℕ) → j < F.nodes → Ex (tree_of F j) (tree_of G j)
    unfolding tree_of
    tree_turned j l = build-turned (suc j) j (omega arith) l

    -- the new tree has the charts of the old one
    mutual
      unfolding Has

      has-exchanged : {t t' : Tree} → Ex t t' → (c : ℕ) → Has t' c ≡ Has t c
      has-exchanged (chart e) c = refl
      has-exchanged (parts u v) c = ap₂ ◌||◌ (has-exchanged u c) (has-exchanged v c)
      has-exchanged (turned {p = p} {q = q} u v) c = ap₂ ◌||◌ (has-exchanged v c) (has-exchanged u c)
          ∙ or_comm (Has q c) (Has p c)
      has-exchanged (inside u) c = has-exchanged u c
      has-exchanged (master {c = d} e u) c = ap (λ z. same c d || z) (slaved-has u c)

      slaved-has : {ss ss' : Slaves} → Sl ss ss' → (c : ℕ) → HasS ss' c ≡ HasS ss c
      slaved-has none c = refl
      slaved-has (more u e v) c = ap₂ ◌||◌ (has-exchanged v c) (slaved-has u c)

  -- ── 8 to 11 ──

  -- the second test counts only if the first does not apply
  either : (b : Bool) (x y : Bool) → (b ≡ false → x ≡ y) → (b || x) ≡ (b || y)
  either true x y h = refl
  either false x y h = h refl

  order_turned : (i : ℕ) → i < F.slaves → in_order_at G i ≡ in_order_at F i
  unfolding rising
  order_turned zero l = refl
  order_turned (suc h) l = ap₂
      (λ s t. ltb s.chart t.chart || (same s.chart t.chart && ltb s.state t.state))
      (r.slave h (omega arith)) (r.slave (suc h) l)

  -- 8
  pub slaves-turned : slaves? G ≡ slaves? F
  unfolding slaves? slave?
  slaves-turned = ap (λ n. any_up_to n (slave? G)) r.slaves ∙ any_cong F.slaves (slave? G) (slave? F) one-slave
    where
      one-slave : (i : ℕ) → i < F.slaves → slave? G i ≡ slave? F i
      one-slave i l =
          ap₂ (λ s o. not_below s.chart G.charts || not_below s.state (G.chart s.chart).states
          || not_below s.node G.nodes || not o)
          (r.slave i l) (order_turned i l)
          ∙ ap₂ (λ m n. not_below (F.master i) m || not_below (F.state i) (G.chart (F.master i)).states
          || not_below (F.node i) n || not (in_order_at F i))
          r.charts r.nodes
          ∙ ap (λ z. z || not_below (F.node i) F.nodes || not (in_order_at F i))
          (either (not_below (F.master i) F.charts) _ _
          (λ e. ap (λ C. not_below (F.state i) C.states)
          (r.chart (F.master i) (below (F.master i) F.charts e))))

  -- a property of nodes that does not change when a and b of a composed one are exchanged
  stand_alike : {T : Type 0} (j : ℕ) → j < F.nodes → (P : Node → T)
      → (F.kind j ≡ 1 → P (exchanged (node_in F j)) ≡ P (node_in F j))
      → P (node_in G j) ≡ P (node_in F j)
  stand_alike j l P h = go (node_in G j) (r.node j l)
    where
      go : (d : Node) → Stands (node_in F j) d → P d ≡ P (node_in F j)
      go d (kept e) = ap P e
      go d (swapped k e) = ap P e ∙ h k

  kind_turned : (j : ℕ) → j < F.nodes → G.kind j ≡ F.kind j
  kind_turned j l = stand_alike j l (λ d. d.kind) (λ e. refl)

  -- 9
  of_kind-turned : (k j : ℕ) → j < F.nodes → F.kind j ≡ k → node_of_kind? G k j ≡ node_of_kind? F k j
  unfolding node_of_kind?
  of_kind-turned zero j l e =
      stand_alike j l (λ d. not_below d.a G.charts || differ d.b 0 || differ d.x 0 || differ d.y 0)
      (λ k. absurd (omega arith))
      ∙ ap (λ n. not_below (F.a j) n || differ (F.b j) 0 || differ (F.x j) 0 || differ (F.y j) 0) r.charts
  of_kind-turned (suc zero) j l e =
      stand_alike j l (λ d. not_below d.a j || not_below d.b j || differ d.y 0)
      (λ k. ap (λ z. z || differ (F.y j) 0) (or_comm (not_below (F.b j) j) (not_below (F.a j) j)))
  of_kind-turned (suc (suc zero)) j l e =
      stand_alike j l (λ d. not_below d.a j || differ d.b 0) (λ k. absurd (omega arith))
  of_kind-turned (suc (suc (suc k))) j l e = refl

  pub nodes_turned : nodes? G ≡ nodes? F
  unfolding nodes?
  nodes_turned = ap (λ n. any_up_to n (λ j. node_of_kind? G (G.kind j) j)) r.nodes
      ∙ any_cong F.nodes (λ j. node_of_kind? G (G.kind j) j) (λ j. node_of_kind? F (F.kind j) j)
      (λ j l. ap (λ k. node_of_kind? G k j) (kind_turned j l) ∙ of_kind-turned (F.kind j) j l refl)

  -- 10
  holds-turned : (k c : ℕ) → k < F.nodes → holds G k c ≡ holds F k c
  unfolding same
  holds-turned k c l = stand_alike k l (λ d. same d.kind 0 && same d.a c) (λ e. rw e)

  names-turned : (k j : ℕ) → k < F.nodes → names G k j ≡ names F k j
  unfolding names same
  names-turned k j l = stand_alike k l
      (λ d. one (same d.kind 1 && same d.a j) + one (same d.kind 1 && same d.b j) + one
      (same d.kind 2 && same d.a j))
      (λ e. rw e (omega arith))

  held-turned : (c : ℕ) → held G c ≡ held F c
  unfolding held
  held-turned c = ap (λ n. tally n (λ k. one (holds G k c))) r.nodes
      ∙ tally_cong F.nodes _ _ (λ k l. ap one (holds-turned k c l))

  named-turned : (j : ℕ) → named G j ≡ named F j
  unfolding named
  named-turned j = ap₂ ◌+◌
      (ap (λ n. tally n (λ i. one (same (G.node i) j))) r.slaves
      ∙ tally_cong F.slaves _ _ (λ i l. ap (λ s. one (same s.node j)) (r.slave i l)))
      (ap (λ n. tally n (λ k. names G k j)) r.nodes ∙ tally_cong F.nodes _ _ (λ k l. names-turned k j l))

  pub naming_turned : naming? G ≡ naming? F
  unfolding naming?
  naming_turned = ap₂ ◌||◌ (ap₂ ◌||◌
      (ap (λ n. any_up_to n (λ c. differ (held G c) 1)) r.charts
      ∙ any_cong F.charts _ _ (λ c l. ap (λ z. differ z 1) (held-turned c)))
      (ap (λ n. any_up_to n (λ j. differ (named G j) (cond (same (suc j) n) 0 1))) r.nodes
      ∙ any_cong F.nodes _ _ (λ j l. ap (λ z. differ z (cond (same (suc j) F.nodes) 0 1)) (named-turned j))))
      (ap₂ (λ m n. any_up_to m (λ i. any_up_to n (λ j. holds G j (G.master i) && not_below (G.node i) j))) r.slaves
      r.nodes
      ∙ any_cong F.slaves _ _ (λ i l. any_cong F.nodes _ _ (λ j m.
      ap₂ ◌&&◌ (holds-turned j (G.master i) m ∙ ap (λ s. holds F j s.chart) (r.slave i l))
      (ap (λ s. not_below s.node j) (r.slave i l)))))

  -- 11
  pub inside-turned : Treed F → inside? G ≡ inside? F
  unfolding inside?
  inside-turned w = ap₂ (λ m n. any_up_to m
      (λ i. any_up_to n (λ c. Has (tree_of G (G.node i)) c && not_below (G.master i) c))) r.slaves r.charts
      ∙ any_cong F.slaves _ _ (λ i l. any_cong F.charts _ _ (λ c m.
      ap (λ s. Has (tree_of G s.node) c && not_below s.chart c) (r.slave i l)
      ∙ ap (λ z. z && not_below (F.master i) c) (has-exchanged w (tree_turned w (F.node i) (w.node-there i l).0) c)))

  -- ── what an answer depends on ──

  pub turned_alike : Treed F → 1 ≤ F.nodes → TreesAlike F G
  turned_alike w some = record {
    charts = r.charts;
    chart = r.chart;
    whole = subst (λ n. Ex (whole_of F) (tree_of G (n - 1))) (sym r.nodes)
        (tree_turned w (F.nodes - 1) (omega arith));
    fed = ap (λ n. union_up_to n (λ j. cond (same (G.kind j) 1) (G.x j) ∅)) r.nodes
        ∙ union_alike F.nodes _ _ (λ j l. stand_alike j l (λ d. cond (same d.kind 1) d.x ∅) (λ e. refl));
  }
