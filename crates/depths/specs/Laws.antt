-- Laws of depths. In this order: the larger of two numbers; the deepest slave as a loop takes it, as the tree has it,
-- and no deeper than each; the depth of a node by its kind (`depth₀` to `depth₂`); that it is not above the node's
-- number by more than one (`depth_most`).
use Rattle.std.specs.Prelude.{◌≡◌, Bool, ltb}
use Rattle.std.proofs.Math.Path.{refl, sym, ap, ap₂}
use Rattle.std.proofs.Common.{◌∙◌, add-one, ltb-false}
use Rattle.std.proofs.Math.Bool.{true, false, cond}
use Prim.Native.Nat.{ℕ, zero, suc, ◌+◌, ◌≤◌, ◌<◌}
use native.Mathlib.Omega.{arith}
use Rattle.meaning.specs.Meaning.{same, Tree, Slaves, nil, snoc}
use Rattle.meaning.specs.File.{File, gather, whole, tree_of}
use Rattle.meaning.specs.Laws.Bools.{same_refl, same→≡, same_≢}
use Rattle.meaning.specs.Laws.Trees.{Ordered, tree₀, tree₁, tree₂}
use Rattle.notation.specs.Syntax.{Chart, larger, depth, depth_slaves}
use Rattle.spelling.specs.Typed.{typed_of, slaves_of}
use Rattle.depths.specs.Depths.{depth_at, deepest}

-- ── the larger of two numbers ──

pub larger_most : (a b m : ℕ) → a ≤ m → b ≤ m → larger a b ≤ m
larger_most a b m p q = go (ltb a b)
  where
    go : (x : Bool) → cond x b a ≤ m
    go true = q
    go false = p

larger-none : (b : ℕ) → larger 0 b ≡ b
larger-none b = go (ltb 0 b) refl
  where
    go : (x : Bool) → ltb 0 b ≡ x → cond x b 0 ≡ b
    go true e = refl
    go false e = let h = ltb-false 0 b e in omega arith

-- ── the deepest slave ──

module _ (master d : ℕ → ℕ) (c : ℕ) where
  -- as a loop over the slaves takes it: none passed, one more that is the chart's, one more that is not
  pub deepest-none : deepest master d c 0 ≡ 0
  unfolding deepest
  deepest-none = refl

  pub deepest-more : (i : ℕ) → master i ≡ c → larger (deepest master d c i) (d i) ≡ deepest master d c (i + 1)
  unfolding deepest
  deepest-more i e = rw (add-one, ap (λ z. same z c) e ∙ same_refl c)

  pub deepest-other : (i : ℕ) → (master i ≡ c → ⊥) → deepest master d c i ≡ deepest master d c (i + 1)
  unfolding deepest
  deepest-other i e = rw (add-one, same_≢ (master i) c e)

  pub deepest_most : (m k : ℕ) → ((i : ℕ) → i < k → master i ≡ c → d i ≤ m) → deepest master d c k ≤ m
  unfolding deepest
  deepest_most m zero h = omega arith
  deepest_most m (suc k) h = go (same (master k) c) refl (deepest_most m k (λ i l. h i (omega arith)))
    where
      go : (b : Bool) → same (master k) c ≡ b → deepest master d c k ≤ m
          → cond b (larger (deepest master d c k) (d k)) (deepest master d c k) ≤ m
      go true e r = larger_most (deepest master d c k) (d k) m r (h k (omega arith) (same→≡ (master k) c e))
      go false e r = r

  -- it asks for the chart's own slaves alone
  pub deepest_cong : (d' : ℕ → ℕ) (k : ℕ) → ((i : ℕ) → i < k → master i ≡ c → d i ≡ d' i)
      → deepest master d c k ≡ deepest master d' c k
  unfolding deepest
  deepest_cong d' zero h = refl
  deepest_cong d' (suc k) h = go (same (master k) c) refl (deepest_cong d' k (λ i l. h i (omega arith)))
    where
      go : (b : Bool) → same (master k) c ≡ b → deepest master d c k ≡ deepest master d' c k
          → cond b (larger (deepest master d c k) (d k)) (deepest master d c k)
          ≡ cond b (larger (deepest master d' c k) (d' k)) (deepest master d' c k)
      go true e r = ap₂ (λ (x y : ℕ). larger x y) r (h k (omega arith) (same→≡ (master k) c e))
      go false e r = r

module _ (F : File) where
  -- of slaves in a tree
  unfoldable deepest_of : Slaves → ℕ
  deepest_of nil = 0
  deepest_of (snoc ss i t) = larger (deepest_of ss) (depth (typed_of F t))

  slaves-deep : (ss : Slaves) (q : ℕ) (u : Chart) → depth_slaves (slaves_of F ss q u) ≡ larger (deepest_of ss) (depth u)
  unfolding deepest_of typed_of depth
  slaves-deep nil q u = sym (larger-none (depth u))
  slaves-deep (snoc ss i t) q u = ap (λ z. larger z (depth u)) (slaves-deep ss (F.state i) (typed_of F t))

  whole-deep : (c : ℕ) (ss : Slaves) → depth (typed_of F (whole c ss)) ≡ suc (deepest_of ss)
  unfolding deepest_of typed_of depth
  whole-deep c nil = refl
  whole-deep c (snoc ss i t) = ap suc (slaves-deep ss (F.state i) (typed_of F t))

  gather-deep : (master : ℕ → ℕ) (g : ℕ → Tree) (c k : ℕ)
      → deepest_of (gather master g c k) ≡ deepest master (λ i. depth (typed_of F (g i))) c k
  unfolding deepest_of gather deepest
  gather-deep master g c zero = refl
  gather-deep master g c (suc k) = go (same (master k) c) (gather-deep master g c k)
    where
      go : (b : Bool) → deepest_of (gather master g c k) ≡ deepest master (λ i. depth (typed_of F (g i))) c k
          → deepest_of (cond b (snoc (gather master g c k) k (g k)) (gather master g c k))
          ≡ cond b (larger (deepest master (λ i. depth (typed_of F (g i))) c k) (depth (typed_of F (g k))))
          (deepest master (λ i. depth (typed_of F (g i))) c k)
      go true r = ap (λ z. larger z (depth (typed_of F (g k)))) r
      go false r = r

-- ── a node ──

module _ (F : File) (w : Ordered F) where
  module _ (j : ℕ) (l : j < F.nodes) where
    pub depth₀ : F.kind j ≡ 0
        → depth_at F j ≡ suc (deepest F.master (λ i. depth_at F (F.node i)) (F.a j) F.slaves)
    depth₀ e =
        ap (λ t. depth (typed_of F t)) (tree₀ F w j l e)
        ∙ whole-deep F (F.a j) (gather F.master (λ i. tree_of F (F.node i)) (F.a j) F.slaves)
        ∙ ap suc (gather-deep F F.master (λ i. tree_of F (F.node i)) (F.a j) F.slaves)

    pub depth₁ : F.kind j ≡ 1 → depth_at F j ≡ suc (larger (depth_at F (F.a j)) (depth_at F (F.b j)))
    unfolding typed_of depth
    depth₁ e = ap (λ t. depth (typed_of F t)) (tree₁ F w j l e)

    pub depth₂ : F.kind j ≡ 2 → depth_at F j ≡ suc (depth_at F (F.a j))
    unfolding typed_of depth
    depth₂ e = ap (λ t. depth (typed_of F t)) (tree₂ F w j l e)

  deep-up_to : (f j : ℕ) → j < f → j < F.nodes → depth_at F j ≤ suc j
  deep-up_to zero j m l = absurd (omega arith)
  deep-up_to (suc f) j m l = go (F.kind j) refl (λ i u. deep-up_to f i (omega arith) (omega arith))
    where
      go : (k : ℕ) → F.kind j ≡ k → ((i : ℕ) → i < j → depth_at F i ≤ suc i) → depth_at F j ≤ suc j
      go zero e ih =
          let d = depth₀ j l e in
          let h =
          deepest_most F.master (λ i. depth_at F (F.node i)) (F.a j) j F.slaves
          (λ i n q. let u = w.lower₀ j l e i n q in let v = ih (F.node i) u in omega arith) in omega arith
      go (suc zero) e ih =
          let u = w.lower₁ j l e in let d = depth₁ j l e in
          let p = ih (F.a j) u.0 in let q = ih (F.b j) u.1 in
          let h = larger_most (depth_at F (F.a j)) (depth_at F (F.b j)) j (omega arith) (omega arith) in omega arith
      go (suc (suc k)) e ih =
          let e₂ : F.kind j ≡ 2 = (let m = w.kinds j l in omega arith) in
          let u = w.lower₂ j l e₂ in let d = depth₂ j l e₂ in let p = ih (F.a j) u in omega arith

  pub depth_most : (j : ℕ) → j < F.nodes → depth_at F j ≤ suc j
  depth_most j = deep-up_to (suc j) j (omega arith)
