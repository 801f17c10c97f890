-- 11 applies to both of two files or to neither, if they have the same tree, and slaves with the same masters
-- (`inside-same`): a slave's tree is where its record stands in the whole (`Built`).
use Rattle.std.specs.Prelude.{◌≡◌, true, false, ◌&&◌, cond}
use Rattle.std.proofs.Math.Path.{refl, ap₂}
use Rattle.std.proofs.Common.{sym, ◌∙◌, subst, arith}
use Rattle.std.proofs.Math.Bool.{Bool}
use Prim.Native.Nat.{ℕ, zero, suc, ◌+◌, ◌-◌, ◌<◌}
use Rattle.std.proofs.Math.Decide.{dec_lt}
use Rattle.meaning.specs.Sums.{any_up_to, one}
use Rattle.meaning.specs.Sums.Laws.{any_cong}
use Rattle.meaning.specs.Meaning.{same, Tree, leaf, comp, hide, dec, nil, snoc}
use Rattle.meaning.specs.Meaning.{Slaves as Held}
use Rattle.meaning.specs.Laws.Bools.{same→≡}
use Rattle.meaning.specs.Laws.Trees.{tree₀, tree₁, tree₂}
use Rattle.meaning.specs.File.{File, whole, gather, tree_of, whole_of, Has}
use Rattle.meaning.specs.Check.{not_below, inside?}
use Rattle.meaning.specs.Check.Nodes.{Treed, Sound}
use Rattle.whole.specs.Weigh.{weight, weights, of_slaves, times_slave}
use Rattle.whole.proofs.Laws.Whole.{whole-slave}
use Rattle.accepted.specs.Tree.{Built, BuiltAll}

-- ── the trees of slaves ──

module _ (F : File) where
  built_gather : (c k : ℕ) → ((i : ℕ) → i < k → F.master i ≡ c → Built F (tree_of F (F.node i)))
      → BuiltAll F (gather F.master (λ i. tree_of F (F.node i)) c k)
  unfolding gather
  built_gather c zero h = tt
  built_gather c (suc k) h = go (same (F.master k) c) refl (built_gather c k (λ i l. h i (omega arith)))
    where
      rest : Held
      rest = gather F.master (λ i. tree_of F (F.node i)) c k

      go : (b : Bool) → same (F.master k) c ≡ b → BuiltAll F rest
          → BuiltAll F (cond b (snoc rest k (tree_of F (F.node k))) rest)
      go true e r = (r, refl, h k (omega arith) (same→≡ (F.master k) c e))
      go false e r = r

  built_whole : (c : ℕ) (ss : Held) → BuiltAll F ss → Built F (whole c ss)
  built_whole c nil h = tt
  built_whole c (snoc ss i t) h = h

  module _ (w : Treed F) where
    built : (f j : ℕ) → j < f → j < F.nodes → Built F (tree_of F j)
    built zero j p l = absurd (omega arith)
    built (suc f) j p l = go (F.kind j) refl (λ i m. built f i (omega arith) (omega arith))
      where
        go : (k : ℕ) → F.kind j ≡ k → ((i : ℕ) → i < j → Built F (tree_of F i)) → Built F (tree_of F j)
        go zero e ih =
            subst (Built F) (sym (tree₀ F w.ordered j l e))
            (built_whole (F.a j) (gather F.master (λ i. tree_of F (F.node i)) (F.a j) F.slaves)
            (built_gather (F.a j) F.slaves (λ i m q. ih (F.node i) (w.ordered.lower₀ j l e i m q))))
        go (suc zero) e ih =
            let u = w.ordered.lower₁ j l e in
            subst (Built F) (sym (tree₁ F w.ordered j l e)) (ih (F.a j) u.0, ih (F.b j) u.1)
        go (suc (suc k)) e ih =
            let e₂ : F.kind j ≡ 2 = (let m = w.ordered.kinds j l in omega arith) in
            subst (Built F) (sym (tree₂ F w.ordered j l e₂)) (ih (F.a j) (w.ordered.lower₂ j l e₂))

    pub built_all : 0 < F.nodes → Built F (whole_of F)
    built_all some = built F.nodes (F.nodes - 1) (omega arith) (omega arith)

-- ── two files ──

module _ (F G : File) (i : ℕ) where
  abbrev Same : Type 0
  Same = tree_of G (G.node i) ≡ tree_of F (F.node i)

  -- one of two terms
  either : (a b : ℕ) → 0 < a + b → (0 < a → Same) → (0 < b → Same) → Same
  either a b h p q = go (dec_lt 0 a)
    where
      go : Dec (0 < a) → Same
      go (yes l) = p l
      go (no l) = q (omega arith)

  mutual
    unfolding weight

    -- where the record of a slave stands in a tree of both, its node has one tree in both
    same_tree : (p : Tree) → Built F p → Built G p → 0 < times_slave i p → Same
    same_tree (leaf c) h k l = absurd (omega arith)
    same_tree (comp p q x) h k l =
        either (times_slave i p) (times_slave i q) (omega arith)
        (λ m. same_tree p h.0 k.0 m) (λ m. same_tree q h.1 k.1 m)
    same_tree (hide p x y) h k l = same_tree p h k (omega arith)
    same_tree (dec c ss) h k l = same-slaves ss h k (omega arith)

    same-slaves : (ss : Held) → BuiltAll F ss → BuiltAll G ss → 0 < weights (of_slaves (λ j. one (same j i))) ss → Same
    same-slaves nil h k l = absurd (omega arith)
    same-slaves (snoc ss j t) h k l =
        either (one (same j i)) (times_slave i t + weights (of_slaves (λ j. one (same j i))) ss) (omega arith)
        (λ m. here (same j i) refl m)
        (λ m. either (times_slave i t) (weights (of_slaves (λ j. one (same j i))) ss) m
        (λ m. same_tree t h.2 k.2 m) (λ m. same-slaves ss h.0 k.0 m))
      where
        here : (b : Bool) → same j i ≡ b → 0 < one b → Same
        here true e m = subst (λ z. tree_of G (G.node z) ≡ tree_of F (F.node z)) (same→≡ j i e) (sym k.1 ∙ h.1)
        here false e m = absurd (omega arith)

module _ (F G : File) (s : Sound F) (some : 0 < F.nodes) (w : Treed F) (v : Treed G) where
  pub inside-same : G.nodes ≡ F.nodes → G.charts ≡ F.charts → G.slaves ≡ F.slaves
      → ((i : ℕ) → i < F.slaves → G.master i ≡ F.master i) → whole_of G ≡ whole_of F → inside? G ≡ inside? F
  unfolding inside?
  inside-same n c k m e =
      ap₂ (λ a b. any_up_to a (λ i. any_up_to b (λ d. Has (tree_of G (G.node i)) d && not_below (G.master i) d))) k c
      ∙ any_cong F.slaves (λ i. any_up_to F.charts (within (tree_of G (G.node i)) (G.master i)))
      (λ i. any_up_to F.charts (within (tree_of F (F.node i)) (F.master i)))
      (λ i l. ap₂ (λ p q. any_up_to F.charts (within p q)) (tree i l) (m i l))
    where
      within : Tree → ℕ → ℕ → Bool
      within p q d = Has p d && not_below q d

      tree : (i : ℕ) → i < F.slaves → tree_of G (G.node i) ≡ tree_of F (F.node i)
      tree i l =
          same_tree F G i (whole_of F) (built_all F w some)
          (subst (Built G) e (built_all G v (omega (arith, n, some))))
          (omega (arith, whole-slave F s some i l))
