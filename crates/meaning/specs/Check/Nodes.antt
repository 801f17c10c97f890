-- What a file is once refusals 8 to 11 do not apply: the assumptions of the wiring and of the step. In this order:
-- what 8, 9 and 10 give; that the charts of a tree are below the file's number of them; what 11 gives; all of it in one
-- record (`sound`).
use Rattle.std.specs.Prelude.{◌≡◌, false, ◌&&◌, not, cond}
use Rattle.std.proofs.Math.Path.{refl}
use Rattle.std.proofs.Common.{sym, ◌∙◌, ap, true≢false}
use Rattle.std.proofs.Math.Bool.{Bool, true}
use Rattle.std.proofs.lemmas.Bool.{false≢true}
use Prim.Native.Nat.{ℕ, zero, suc, ◌≤◌, ◌<◌}
use native.Mathlib.Omega.{arith}
use Rattle.meaning.specs.Sums.{any_up_to}
use Rattle.meaning.specs.Sums.Laws.{or_left, or_three, or_four, any-never}
use Rattle.meaning.specs.Meaning.{same, Slaves, nil, snoc}
use Rattle.meaning.specs.File.{File, tree_of, gather, whole, Has, HasS}
use Rattle.meaning.specs.Check.{not_below, differ, in_order_at, slave?, slaves?, node_of_kind?, nodes?, holds, named}
use Rattle.meaning.specs.Check.{held, naming?, inside?}
use Rattle.meaning.specs.Check.Laws.{below, alike}
use Rattle.meaning.specs.Laws.Bools.{or_elim, same_refl, same→≡, same_≢, and_i, and_second}
use Rattle.meaning.specs.Laws.Trees.{Ordered, Rule11, tree₀, tree₁, tree₂}
use Rattle.meaning.specs.Laws.Names.{Rule10}

-- the tree of each node is made of lower nodes and of the file's charts
pub record Treed (F : File) : Type 0 where
  pub ordered : Ordered F
  pub chart_there : (j : ℕ) → j < F.nodes → F.kind j ≡ 0 → F.a j < F.charts
  pub node-there : (i : ℕ) → i < F.slaves → (F.node i < F.nodes) × (F.master i < F.charts)

pub record Sound (F : File) : Type 0 where
  pub ordered : Ordered F
  pub rule10 : Rule10 F
  pub rule11 : Rule11 F
  pub chart_there : (j : ℕ) → j < F.nodes → F.kind j ≡ 0 → F.a j < F.charts
  pub node-there : (i : ℕ) → i < F.slaves → (F.node i < F.nodes) × (F.master i < F.charts)

module _ (F : File) where
  -- ── 8 ──

  pub slaves_there : slaves? F ≡ false → (i : ℕ) → i < F.slaves → (F.node i < F.nodes) × (F.master i < F.charts)
  unfolding slaves? slave?
  slaves_there h i l =
      let q = or_four (not_below (F.master i) F.charts) (not_below (F.state i) (F.chart (F.master i)).states)
      (not_below (F.node i) F.nodes)
      (not (in_order_at F i)) (any-never F.slaves (slave? F) h i l) in
      (below (F.node i) F.nodes q.2, below (F.master i) F.charts q.0)

  -- ── 9 ──

  pub kind_at_most : (k j : ℕ) → node_of_kind? F k j ≡ false → k ≤ 2
  unfolding node_of_kind?
  kind_at_most zero j h = omega arith
  kind_at_most (suc zero) j h = omega arith
  kind_at_most (suc (suc zero)) j h = omega arith
  kind_at_most (suc (suc (suc k))) j h = absurd (true≢false h)

  pub kind₀ : (k j : ℕ) → k ≡ 0 → node_of_kind? F k j ≡ false → F.a j < F.charts
  unfolding node_of_kind?
  kind₀ zero j e h = below (F.a j) F.charts
      (or_four (not_below (F.a j) F.charts) (differ (F.b j) 0) (differ (F.x j) 0) (differ (F.y j) 0) h).0
  kind₀ (suc k) j e h = absurd (omega arith)

  pub kind₁ : (k j : ℕ) → k ≡ 1 → node_of_kind? F k j ≡ false → (F.a j < j) × (F.b j < j)
  unfolding node_of_kind?
  kind₁ zero j e h = absurd (omega arith)
  kind₁ (suc zero) j e h =
      let q = or_three (not_below (F.a j) j) (not_below (F.b j) j) (differ (F.y j) 0) h in
      (below (F.a j) j q.0, below (F.b j) j q.1)
  kind₁ (suc (suc k)) j e h = absurd (omega arith)

  pub kind₂ : (k j : ℕ) → k ≡ 2 → node_of_kind? F k j ≡ false → F.a j < j
  unfolding node_of_kind?
  kind₂ zero j e h = absurd (omega arith)
  kind₂ (suc zero) j e h = absurd (omega arith)
  kind₂ (suc (suc zero)) j e h = below (F.a j) j (or_left (not_below (F.a j) j) (differ (F.b j) 0) h)
  kind₂ (suc (suc (suc k))) j e h = absurd (omega arith)

  pub node_passes : nodes? F ≡ false → (j : ℕ) → j < F.nodes → node_of_kind? F (F.kind j) j ≡ false
  unfolding nodes?
  node_passes h j l = any-never F.nodes (λ j. node_of_kind? F (F.kind j) j) h j l

  -- ── 10 ──

  rule_10 : naming? F ≡ false → Rule10 F
  unfolding naming?
  rule_10 h = record {
    once = λ c l. alike (held F c) 1 (any-never F.charts (λ c. differ (held F c) 1) q.0 c l);
    named_once = λ j l. alike (named F j) 1 (ap (λ b. differ (named F j) (cond b 0 1))
        (sym (same_≢ (suc j) F.nodes (λ e. omega arith))) ∙ at j (omega arith));
    named-last = λ j e. alike (named F j) 0 (ap (λ b. differ (named F j) (cond b 0 1))
        (sym (ap (same (suc j)) (sym e) ∙ same_refl (suc j))) ∙ at j (omega arith));
    master_higher = λ i j l m k e. below (F.node i) j (and_second (holds F j (F.master i)) (not_below (F.node i) j)
        (any-never F.nodes
        (λ j. holds F j (F.master i) && not_below (F.node i) j) (any-never F.slaves masters q.2 i l) j m)
        (and_i (ap (λ z. same z 0) k ∙ same_refl 0) (ap (λ z. same z (F.master i)) e ∙ same_refl (F.master i))));
  }
    where
      masters : ℕ → Bool
      masters i = any_up_to F.nodes (λ j. holds F j (F.master i) && not_below (F.node i) j)

      q : (any_up_to F.charts (λ c. differ (held F c) 1) ≡ false)
          × (any_up_to F.nodes (λ j. differ (named F j) (cond (same (suc j) F.nodes) 0 1)) ≡ false)
          × (any_up_to F.slaves masters ≡ false)
      q = or_three (any_up_to F.charts (λ c. differ (held F c) 1)) (any_up_to F.nodes
          (λ j. differ (named F j) (cond (same (suc j) F.nodes) 0 1))) (any_up_to F.slaves masters) h

      at : (j : ℕ) → j < F.nodes → differ (named F j) (cond (same (suc j) F.nodes) 0 1) ≡ false
      at j l = any-never F.nodes (λ j. differ (named F j) (cond (same (suc j) F.nodes) 0 1)) q.1 j l

  -- ── 8 to 10 ──

  pub treed : slaves? F ≡ false → nodes? F ≡ false → naming? F ≡ false → Treed F
  treed h8 h9 h10 = record {
    ordered = record {
      lower₁ = λ j l e. kind₁ (F.kind j) j e (node_passes h9 j l);
      lower₂ = λ j l e. kind₂ (F.kind j) j e (node_passes h9 j l);
      lower₀ = λ j l e i m q. (rule_10 h10).master_higher i j m l e (sym q);
      kinds = λ j l. kind_at_most (F.kind j) j (node_passes h9 j l);
    };
    chart_there = λ j l e. kind₀ (F.kind j) j e (node_passes h9 j l);
    node-there = slaves_there h8;
  }

-- ── the charts of a tree are the file's ──

module _ (F : File) (w : Treed F) where
  slaves-charts : (c k d : ℕ)
      → ((i : ℕ) → i < k → F.master i ≡ c → Has (tree_of F (F.node i)) d ≡ true → d < F.charts)
      → HasS (gather F.master (λ i. tree_of F (F.node i)) c k) d ≡ true → d < F.charts
  unfolding gather Has
  slaves-charts c zero d ih h = absurd (false≢true h)
  slaves-charts c (suc k) d ih h = go (same (F.master k) c) refl (slaves-charts c k d (λ i l. ih i (omega arith))) h
    where
      rest : Slaves
      rest = gather F.master (λ i. tree_of F (F.node i)) c k

      go : (b : Bool) → same (F.master k) c ≡ b → (HasS rest d ≡ true → d < F.charts)
          → HasS (cond b (snoc rest k (tree_of F (F.node k))) rest) d ≡ true → d < F.charts
      go true e r g = or_elim (Has (tree_of F (F.node k)) d) (HasS rest d) (d < F.charts)
          (ih k (omega arith) (same→≡ (F.master k) c e)) r g
      go false e r g = r g

  whole-charts : (c : ℕ) (ss : Slaves) (d : ℕ) → c < F.charts → (HasS ss d ≡ true → d < F.charts)
      → Has (whole c ss) d ≡ true → d < F.charts
  unfolding Has
  whole-charts c nil d l f h = rw (same→≡ d c h) l
  whole-charts c (snoc ss i t) d l f h =
      or_elim (same d c) (HasS (snoc ss i t) d) (d < F.charts) (λ e. rw (same→≡ d c e) l) f h

  charts-below : (f j d : ℕ) → j < f → j < F.nodes → Has (tree_of F j) d ≡ true → d < F.charts
  unfolding Has
  charts-below zero j d p l h = absurd (omega arith)
  charts-below (suc f) j d p l h = go (F.kind j) refl (λ i m. charts-below f i d (omega arith) (omega arith))
    where
      go : (k : ℕ) → F.kind j ≡ k → ((i : ℕ) → i < j → Has (tree_of F i) d ≡ true → d < F.charts) → d < F.charts
      go zero e ih = whole-charts (F.a j) (gather F.master (λ i. tree_of F (F.node i)) (F.a j) F.slaves) d
          (w.chart_there j l e)
          (slaves-charts (F.a j) F.slaves d
          (λ i m q. ih (F.node i) (w.ordered.lower₀ j l e i m q))) (rw (tree₀ F w.ordered j l e) at h)
      go (suc zero) e ih = let u = w.ordered.lower₁ j l e in
          or_elim (Has (tree_of F (F.a j)) d) (Has (tree_of F (F.b j)) d) (d < F.charts) (ih (F.a j) u.0)
          (ih (F.b j) u.1) (rw (tree₁ F w.ordered j l e) at h)
      go (suc (suc k)) e ih = let e₂ : F.kind j ≡ 2 = (let m = w.ordered.kinds j l in omega arith) in
          ih (F.a j) (w.ordered.lower₂ j l e₂) (rw (tree₂ F w.ordered j l e₂) at h)

  pub has-below : (j d : ℕ) → j < F.nodes → Has (tree_of F j) d ≡ true → d < F.charts
  has-below j d = charts-below (suc j) j d (omega arith)

  -- ── 11 ──

  rule_11 : inside? F ≡ false → Rule11 F
  unfolding inside?
  rule_11 h i c l e = let m = (w.node-there i l).0 in
      below (F.master i) c (and_second (Has (tree_of F (F.node i)) c) (not_below (F.master i) c)
      (any-never F.charts (λ c. Has (tree_of F (F.node i)) c && not_below (F.master i) c)
      (any-never F.slaves (λ i. any_up_to F.charts (λ c. Has (tree_of F (F.node i)) c && not_below (F.master i) c))
      h i l) c (has-below (F.node i) c m e)) e)

-- ── all of it ──

pub sound : (F : File) → slaves? F ≡ false → nodes? F ≡ false → naming? F ≡ false → inside? F ≡ false → Sound F
sound F h8 h9 h10 h11 = let w = treed F h8 h9 h10 in
    record {
      ordered = w.ordered;
      rule10 = rule_10 F h10;
      rule11 = rule_11 F w h11;
      chart_there = w.chart_there;
      node-there = w.node-there;
    }
