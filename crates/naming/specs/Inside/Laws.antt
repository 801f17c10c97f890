-- Laws of the lowest chart: it stands in the tree (`has-lowest`); that of a node by the node's kind (`lowest₀` to
-- `lowest₂`); where every slave passes, no chart of a tree is below it (`lowest-below`); 11 by it, where a slave fails
-- (`inside-bad`) and where all pass (`inside_good`).
use Rattle.std.specs.Prelude.{◌≡◌, Bool, false, ◌&&◌, ◌||◌, not, cond, ltb}
use Rattle.std.proofs.Math.Path.{refl}
use Rattle.std.proofs.Common.{ap, ◌∙◌, le_refl, arith, lt-ltb, ltb-true, ltb-false}
use Rattle.std.proofs.Math.Bool.{true}
use Rattle.std.proofs.lemmas.Bool.{false≢true}
use Prim.Native.Nat.{ℕ, zero, suc, ◌≤◌, ◌<◌}
use Rattle.meaning.specs.Sums.{any_up_to}
use Rattle.meaning.specs.Sums.Laws.{any_at, any-never, any-all}
use Rattle.meaning.specs.Meaning.{same, Tree, Slaves, leaf, comp, hide, dec, nil, snoc}
use Rattle.meaning.specs.File.{File, tree_of, gather, whole, Has, HasS}
use Rattle.meaning.specs.Check.{not_below, inside?}
use Rattle.meaning.specs.Check.Laws.{below}
use Rattle.meaning.specs.Check.Nodes.{Treed, has-below}
use Rattle.meaning.specs.Laws.Bools.{and_i, or_l, or_r, or_elim, same_refl, same→≡}
use Rattle.meaning.specs.Laws.Trees.{tree₀, tree₁, tree₂}
use Rattle.naming.specs.Inside.{lower, lowest, fails}

-- ── lowest ──

lowest-whole : (c : ℕ) (ss : Slaves) → lowest (whole c ss) ≡ c
unfolding lowest
lowest-whole c nil = refl
lowest-whole c (snoc ss i t) = refl

pub has-lowest : (t : Tree) → Has t (lowest t) ≡ true
unfolding Has lowest
has-lowest (leaf c) = same_refl c
has-lowest (comp p q x) = go (ltb (lowest p) (lowest q)) (has-lowest p) (has-lowest q)
  where
    go : (b : Bool) → Has p (lowest p) ≡ true → Has q (lowest q) ≡ true
        → (Has p (cond b (lowest p) (lowest q)) || Has q (cond b (lowest p) (lowest q))) ≡ true
    go true u v = or_l (Has p (lowest p)) (Has q (lowest p)) u
    go false u v = or_r (Has p (lowest q)) (Has q (lowest q)) v
has-lowest (hide p x y) = has-lowest p
has-lowest (dec c ss) = or_l _ _ (same_refl c)

lower-left : (a b d : ℕ) → a ≤ d → lower a b ≤ d
lower-left a b d h = go (ltb a b) refl
  where
    go : (x : Bool) → ltb a b ≡ x → cond x a b ≤ d
    go true e = h
    go false e = omega (arith, ltb-false a b e)

lower-right : (a b d : ℕ) → b ≤ d → lower a b ≤ d
lower-right a b d h = go (ltb a b) refl
  where
    go : (x : Bool) → ltb a b ≡ x → cond x a b ≤ d
    go true e = omega (arith, ltb-true a b e)
    go false e = h

module _ (F : File) (w : Treed F) where
  -- the slaves of the chart of node j
  abbrev slaves_at : ℕ → Slaves
  slaves_at j = gather F.master (λ i. tree_of F (F.node i)) (F.a j) F.slaves

  -- ── the lowest chart of a node, by its kind ──

  module _ (j : ℕ) (l : j < F.nodes) where
    pub lowest₀ : F.kind j ≡ 0 → lowest (tree_of F j) ≡ F.a j
    lowest₀ e = ap lowest (tree₀ F w.ordered j l e) ∙ lowest-whole (F.a j) (slaves_at j)

    pub lowest₁ : F.kind j ≡ 1 → lowest (tree_of F j) ≡ lower (lowest (tree_of F (F.a j))) (lowest (tree_of F (F.b j)))
    unfolding lowest
    lowest₁ e = rw (tree₁ F w.ordered j l e)

    pub lowest₂ : F.kind j ≡ 2 → lowest (tree_of F j) ≡ lowest (tree_of F (F.a j))
    unfolding lowest
    lowest₂ e = rw (tree₂ F w.ordered j l e)

  -- ── 11 ──

  -- every slave passes
  module _ (p : (i : ℕ) → i < F.slaves → F.master i < lowest (tree_of F (F.node i))) where
    slaves_above : (c k d : ℕ) → k ≤ F.slaves
        → ((i : ℕ) → i < k → F.master i ≡ c → Has (tree_of F (F.node i)) d ≡ true → lowest (tree_of F (F.node i)) ≤ d)
        → HasS (gather F.master (λ i. tree_of F (F.node i)) c k) d ≡ true → c ≤ d
    unfolding gather Has
    slaves_above c zero d l ih h = absurd (false≢true h)
    slaves_above c (suc k) d l ih h =
        go (same (F.master k) c) refl (slaves_above c k d (omega arith) (λ i m. ih i (omega arith))) h
      where
        rest : Slaves
        rest = gather F.master (λ i. tree_of F (F.node i)) c k

        go : (b : Bool) → same (F.master k) c ≡ b → (HasS rest d ≡ true → c ≤ d)
            → HasS (cond b (snoc rest k (tree_of F (F.node k))) rest) d ≡ true → c ≤ d
        go true e r g =
            let q = same→≡ (F.master k) c e in
            or_elim (Has (tree_of F (F.node k)) d) (HasS rest d) (c ≤ d)
            (λ u. omega (arith, ih k (omega arith) q u, p k (omega arith))) r g
        go false e r g = r g

    whole_above : (c : ℕ) (ss : Slaves) (d : ℕ) → (HasS ss d ≡ true → c ≤ d) → Has (whole c ss) d ≡ true → c ≤ d
    unfolding Has
    whole_above c nil d f h = rw (same→≡ d c h) (le_refl c)
    whole_above c (snoc ss i t) d f h =
        or_elim (same d c) (HasS (snoc ss i t) d) (c ≤ d) (λ e. rw (same→≡ d c e) (le_refl c)) f h

    lowest-up_to : (f j d : ℕ) → j < f → j < F.nodes → Has (tree_of F j) d ≡ true → lowest (tree_of F j) ≤ d
    unfolding Has lowest
    lowest-up_to zero j d m l h = absurd (omega arith)
    lowest-up_to (suc f) j d m l h = go (F.kind j) refl (λ i u. lowest-up_to f i d (omega arith) (omega arith))
      where
        go : (k : ℕ) → F.kind j ≡ k → ((i : ℕ) → i < j → Has (tree_of F i) d ≡ true → lowest (tree_of F i) ≤ d)
            → lowest (tree_of F j) ≤ d
        go zero e ih =
            rw (lowest₀ j l e) (whole_above (F.a j) (slaves_at j) d
            (slaves_above (F.a j) F.slaves d (le_refl F.slaves)
            (λ i n q. ih (F.node i) (w.ordered.lower₀ j l e i n q)))
            (rw (tree₀ F w.ordered j l e) at h))
        go (suc zero) e ih =
            let u = w.ordered.lower₁ j l e in
            rw (lowest₁ j l e) (or_elim (Has (tree_of F (F.a j)) d) (Has (tree_of F (F.b j)) d)
            (lower (lowest (tree_of F (F.a j))) (lowest (tree_of F (F.b j))) ≤ d)
            (λ g. lower-left (lowest (tree_of F (F.a j))) (lowest (tree_of F (F.b j))) d (ih (F.a j) u.0 g))
            (λ g. lower-right (lowest (tree_of F (F.a j))) (lowest (tree_of F (F.b j))) d (ih (F.b j) u.1 g))
            (rw (tree₁ F w.ordered j l e) at h))
        go (suc (suc k)) e ih =
            let e₂ : F.kind j ≡ 2 = (let m = w.ordered.kinds j l in omega arith) in
            rw (lowest₂ j l e₂) (ih (F.a j) (w.ordered.lower₂ j l e₂) (rw (tree₂ F w.ordered j l e₂) at h))

    pub lowest-below : (j d : ℕ) → j < F.nodes → Has (tree_of F j) d ≡ true → lowest (tree_of F j) ≤ d
    lowest-below j d = lowest-up_to (suc j) j d (omega arith)

  -- a slave that fails is bad by that chart
  pub inside-bad : (i : ℕ) → i < F.slaves → fails F i ≡ true → inside? F ≡ true
  unfolding inside?
  inside-bad i l e =
      let t = tree_of F (F.node i) in
      any_at F.slaves _ i l (any_at F.charts _ (lowest t)
      (has-below F w (F.node i) (lowest t) (w.node-there i l).0 (has-lowest t)) (and_i (has-lowest t) e))

  -- none is bad where all pass
  pub inside_good : any_up_to F.slaves (fails F) ≡ false → inside? F ≡ false
  unfolding inside?
  inside_good h =
      any-all F.slaves _ (λ i l. any-all F.charts _ (λ c m. go i c l (Has (tree_of F (F.node i)) c) refl))
    where
      passes : (i : ℕ) → i < F.slaves → F.master i < lowest (tree_of F (F.node i))
      passes i l = below (F.master i) (lowest (tree_of F (F.node i))) (any-never F.slaves (fails F) h i l)

      go : (i c : ℕ) → i < F.slaves → (b : Bool) → Has (tree_of F (F.node i)) c ≡ b
          → (b && not_below (F.master i) c) ≡ false
      go i c l true e =
          ap not (lt-ltb (F.master i) c
          (omega (arith, passes i l, lowest-below passes (F.node i) c (w.node-there i l).0 e)))
      go i c l false e = refl
