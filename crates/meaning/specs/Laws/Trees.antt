-- The tree of a file. In this order: the tree of a node from those of lower nodes, by its kind; how charts stand in
-- their nearest slaves (Placed); every chart stands in the whole (`all_there`); test 11.
use Rattle.std.specs.Prelude.{◌≡◌, Bool, true, false, ◌||◌, cond, ◌≢◌}
use Rattle.std.proofs.Math.Path.{refl, ap}
use Rattle.std.proofs.Common.{sym, ◌∙◌, arith}
use Rattle.std.proofs.lemmas.Bool.{false≢true}
use Rattle.std.proofs.Math.Option.{Option, some}
use Prim.Native.Nat.{ℕ, zero, suc, ◌+◌, ◌≤◌, ◌<◌}
use Rattle.meaning.specs.File.{File, by_kind, whole, gather, build, tree_of}
use Rattle.meaning.specs.Meaning.{same, Tree, Slaves, comp, hide, nil, snoc}
use Rattle.meaning.specs.Laws.Bools.{or_l, or_r, same_refl, same→≡, same→≢}
use Rattle.meaning.specs.File.{Has, HasS}
use Rattle.meaning.specs.Laws.Above.{Above, AboveS}

module _ (F : File) where
  -- tests 9 and 10, the part on order
  pub record Ordered : Type 0 where
    pub lower₁ : (j : ℕ) → j < F.nodes → F.kind j ≡ 1 → (F.a j < j) × (F.b j < j)
    pub lower₂ : (j : ℕ) → j < F.nodes → F.kind j ≡ 2 → F.a j < j
    pub lower₀ : (j : ℕ) → j < F.nodes → F.kind j ≡ 0 → (i : ℕ) → i < F.slaves → F.master i ≡ F.a j → F.node i < j
    pub kinds : (j : ℕ) → j < F.nodes → F.kind j ≤ 2

gather_cong : (sc : ℕ → ℕ) (g h : ℕ → Tree) (c k : ℕ) → ((i : ℕ) → i < k → sc i ≡ c → g i ≡ h i)
    → gather sc g c k ≡ gather sc h c k
unfolding gather
gather_cong sc g h c zero e = refl
gather_cong sc g h c (suc k) e = go (same (sc k) c) refl (gather_cong sc g h c k (λ i l p. e i (omega arith) p))
  where
    go : (b : Bool) → same (sc k) c ≡ b → gather sc g c k ≡ gather sc h c k
        → cond b (snoc (gather sc g c k) k (g k)) (gather sc g c k)
        ≡ cond b (snoc (gather sc h c k) k (h k)) (gather sc h c k)
    go true q r = rw (r, e k (omega arith) (same→≡ (sc k) c q))
    go false q r = r

module _ (F : File) (w : Ordered F) where
  -- enough fuel is enough
  fuel : (f g j : ℕ) → j < f → j < g → j < F.nodes → build F f j ≡ build F g j
  unfolding build
  fuel zero g j p q l = absurd (omega arith)
  fuel (suc f) zero j p q l = absurd (omega arith)
  fuel (suc f) (suc g) j p q l = go (F.kind j) refl (λ i a. fuel f g i (omega arith) (omega arith) (omega arith))
    where
      go : (k : ℕ) → F.kind j ≡ k → ((i : ℕ) → i < j → build F f i ≡ build F g i)
          → by_kind k (whole (F.a j) (gather F.master (λ i. build F f (F.node i)) (F.a j) F.slaves))
          (comp (build F f (F.a j)) (build F f (F.b j)) (F.x j)) (hide (build F f (F.a j)) (F.x j) (F.y j))
          ≡ by_kind k (whole (F.a j) (gather F.master (λ i. build F g (F.node i)) (F.a j) F.slaves))
          (comp (build F g (F.a j)) (build F g (F.b j)) (F.x j)) (hide (build F g (F.a j)) (F.x j) (F.y j))
      go zero e ih = ap (whole (F.a j))
          (gather_cong F.master (λ i. build F f (F.node i)) (λ i. build F g (F.node i)) (F.a j) F.slaves
          (λ i a b. ih (F.node i) (w.lower₀ j l e i a b)))
      go (suc zero) e ih = rw (ih (F.a j) (w.lower₁ j l e).0, ih (F.b j) (w.lower₁ j l e).1)
      go (suc (suc k)) e ih = rw (ih (F.a j) (w.lower₂ j l (let h = w.kinds j l in omega arith)))

  pub tree₀ : (j : ℕ) → j < F.nodes → F.kind j ≡ 0
      → tree_of F j ≡ whole (F.a j) (gather F.master (λ i. tree_of F (F.node i)) (F.a j) F.slaves)
  unfolding tree_of build
  tree₀ j l e = rw e (ap (whole (F.a j))
      (gather_cong F.master (λ i. build F j (F.node i)) (λ i. build F (suc (F.node i)) (F.node i)) (F.a j)
      F.slaves
      (λ i a b. let h = w.lower₀ j l e i a b in fuel j (suc (F.node i)) (F.node i) h (omega arith) (omega arith))))

  pub tree₁ : (j : ℕ) → j < F.nodes → F.kind j ≡ 1
      → tree_of F j ≡ comp (tree_of F (F.a j)) (tree_of F (F.b j)) (F.x j)
  unfolding tree_of build
  tree₁ j l e = let h = w.lower₁ j l e in
      rw (
        e,
        fuel j (suc (F.a j)) (F.a j) h.0 (omega arith) (omega arith),
        fuel j (suc (F.b j)) (F.b j) h.1 (omega arith) (omega arith),
      )

  pub tree₂ : (j : ℕ) → j < F.nodes → F.kind j ≡ 2 → tree_of F j ≡ hide (tree_of F (F.a j)) (F.x j) (F.y j)
  unfolding tree_of build
  tree₂ j l e = let h = w.lower₂ j l e in rw (e, fuel j (suc (F.a j)) (F.a j) h (omega arith) (omega arith))

-- ── how the charts stand ──
-- enc j: the slave that node j is in, the nearest; kap c: the same of chart c
pub record Placed (F : File) (enc kap : ℕ → Option ℕ) : Type 0 where
  pub in₁ : (j : ℕ) → j < F.nodes → F.kind j ≡ 1 → (enc (F.a j) ≡ enc j) × (enc (F.b j) ≡ enc j)
  pub in₂ : (j : ℕ) → j < F.nodes → F.kind j ≡ 2 → enc (F.a j) ≡ enc j
  pub in₀ : (j : ℕ) → j < F.nodes → F.kind j ≡ 0 → (i : ℕ) → i < F.slaves → F.master i ≡ F.a j
      → enc (F.node i) ≡ some i
  pub hold : (j : ℕ) → j < F.nodes → F.kind j ≡ 0 → (F.a j < F.charts) × (kap (F.a j) ≡ enc j)
  pub under : (j i : ℕ) → j < F.nodes → enc j ≡ some i → j ≤ F.node i

-- ── every chart stands in the whole ──

-- what names node j
pub data Namer (F : File) (j : ℕ) : Type 0 where
  left : (k : ℕ) → k < F.nodes → F.kind k ≡ 1 → F.a k ≡ j → Namer F j
  right : (k : ℕ) → k < F.nodes → F.kind k ≡ 1 → F.b k ≡ j → Namer F j
  inside : (k : ℕ) → k < F.nodes → F.kind k ≡ 2 → F.a k ≡ j → Namer F j
  slave : (i : ℕ) → i < F.slaves → F.node i ≡ j → Namer F j

-- every chart is held, and every node but the last is named
pub record Joined (F : File) : Type 0 where
  pub holder : (c : ℕ) → c < F.charts → (j : ℕ) × (j < F.nodes) × (F.kind j ≡ 0) × (F.a j ≡ c)
  pub named : (j : ℕ) → suc j < F.nodes → Namer F j
  pub master : (i : ℕ) → i < F.slaves → F.master i < F.charts

pub gather-has : (sc : ℕ → ℕ) (g : ℕ → Tree) (c k d i : ℕ) → i < k → sc i ≡ c → Has (g i) d ≡ true
    → HasS (gather sc g c k) d ≡ true
unfolding gather Has
gather-has sc g c zero d i l e h = absurd (omega arith)
gather-has sc g c (suc k) d i l e h = go (same i k) refl (same (sc k) c) refl (λ l'. gather-has sc g c k d i l' e h)
  where
    rest : Slaves
    rest = gather sc g c k

    go : (b : Bool) → same i k ≡ b → (a : Bool) → same (sc k) c ≡ a → (i < k → HasS rest d ≡ true)
        → HasS (cond a (snoc rest k (g k)) rest) d ≡ true
    go true p true q r = let z : i ≡ k = same→≡ i k p in or_l (Has (g k) d) (HasS rest d) (rw z at h)
    go true p false q r = let z : i ≡ k = same→≡ i k p in
        absurd (false≢true (sym q ∙ rw (sym (ap sc z) ∙ e) (same_refl c)))
    go false p true q r = let z : i ≢ k = same→≢ i k p in or_r (Has (g k) d) (HasS rest d) (r (omega arith))
    go false p false q r = let z : i ≢ k = same→≢ i k p in r (omega arith)

pub whole-own : (c : ℕ) (ss : Slaves) → Has (whole c ss) c ≡ true
unfolding Has
whole-own c nil = same_refl c
whole-own c (snoc ss i t) = or_l (same c c) (HasS (snoc ss i t) c) (same_refl c)

pub whole_has : (c : ℕ) (ss : Slaves) (d : ℕ) → HasS ss d ≡ true → Has (whole c ss) d ≡ true
unfolding Has
whole_has c nil d h = absurd (false≢true h)
whole_has c (snoc ss i t) d h = or_r (same d c) (HasS (snoc ss i t) d) h

module _ (F : File) (w : Ordered F) (jn : Joined F) where
  pub rise : (j d : ℕ) → Namer F j → Has (tree_of F j) d ≡ true
      → (k : ℕ) × (j < k) × (k < F.nodes) × (Has (tree_of F k) d ≡ true)
  unfolding Has
  rise j d (left k l e p) h = (
    k,
    rw p at (w.lower₁ k l e).0,
    l,
    rw (tree₁ F w k l e, p) (or_l (Has (tree_of F j) d) (Has (tree_of F (F.b k)) d) h),
  )
  rise j d (right k l e p) h = (
    k,
    rw p at (w.lower₁ k l e).1,
    l,
    rw (tree₁ F w k l e, p) (or_r (Has (tree_of F (F.a k)) d) (Has (tree_of F j) d) h),
  )
  rise j d (inside k l e p) h = (k, rw p at (w.lower₂ k l e), l, rw (tree₂ F w k l e, p) h)
  rise j d (slave i l p) h = let m = jn.holder (F.master i) (jn.master i l) in (
    m.0,
    rw p at (w.lower₀ m.0 m.1 m.2 i l (sym m.3)),
    m.1,
    rw (tree₀ F w m.0 m.1 m.2)
        (whole_has (F.a m.0) (gather F.master (λ i. tree_of F (F.node i)) (F.a m.0) F.slaves) d
        (gather-has F.master (λ i. tree_of F (F.node i)) (F.a m.0) F.slaves d i l (sym m.3) (rw p h))),
  )

  climb : (f j d last : ℕ) → suc last ≡ F.nodes → F.nodes ≤ j + f → j < F.nodes → Has (tree_of F j) d ≡ true
      → Has (tree_of F last) d ≡ true
  climb zero j d last e b l h = absurd (omega arith)
  climb (suc f) j d last e b l h = go (same j last) refl (λ k p q r. climb f k d last e (omega arith) q r)
    where
      go : (x : Bool) → same j last ≡ x
          → ((k : ℕ) → j < k → k < F.nodes → Has (tree_of F k) d ≡ true → Has (tree_of F last) d ≡ true)
          → Has (tree_of F last) d ≡ true
      go true p rec = rw (same→≡ j last p) at h
      go false p rec = let z : j ≢ last = same→≢ j last p in let u = rise j d (jn.named j (omega arith)) h in
          rec u.0 u.1 u.2 u.3

  pub all_there : (last c : ℕ) → suc last ≡ F.nodes → c < F.charts → Has (tree_of F last) c ≡ true
  all_there last c e l = let m = jn.holder c l in
      climb F.nodes m.0 c last e (omega arith) m.1
      (rw (tree₀ F w m.0 m.1 m.2, m.3)
      (whole-own c (gather F.master (λ i. tree_of F (F.node i)) c F.slaves)))

-- ── test 11 ──
abbrev pub Rule11 : File → Type 0
Rule11 F = (i c : ℕ) → i < F.slaves → Has (tree_of F (F.node i)) c ≡ true → F.master i < c

module _ (F : File) (w : Ordered F) (r11 : Rule11 F) where
  gather_above : (c k d : ℕ) → k ≤ F.slaves
      → HasS (gather F.master (λ i. tree_of F (F.node i)) c k) d ≡ true → c < d
  unfolding gather Has
  gather_above c zero d l h = absurd (false≢true h)
  gather_above c (suc k) d l h = go (same (F.master k) c) refl (gather_above c k d (omega arith)) h
    where
      rest : Slaves
      rest = gather F.master (λ i. tree_of F (F.node i)) c k

      go : (b : Bool) → same (F.master k) c ≡ b → (HasS rest d ≡ true → c < d)
          → HasS (cond b (snoc rest k (tree_of F (F.node k))) rest) d ≡ true
          → c < d
      go true e rec h = split (Has (tree_of F (F.node k)) d) refl h
        where
          split : (x : Bool) → Has (tree_of F (F.node k)) d ≡ x → (x || HasS rest d) ≡ true → c < d
          split true p q = let z = r11 k d (omega arith) p in let y = same→≡ (F.master k) c e in omega arith
          split false p q = rec q
      go false e rec h = rec h

  above_whole : (c : ℕ) (ss : Slaves) → ((d : ℕ) → HasS ss d ≡ true → c < d) → AboveS ss → Above (whole c ss)
  above_whole c nil h v = tt
  above_whole c (snoc ss i t) h v = (h, v)

  above_gather : (c k : ℕ) → k ≤ F.slaves → ((i : ℕ) → i < F.slaves → F.master i ≡ c → Above (tree_of F (F.node i)))
      → AboveS (gather F.master (λ i. tree_of F (F.node i)) c k)
  unfolding gather
  above_gather c zero l h = tt
  above_gather c (suc k) l h = go (same (F.master k) c) refl (above_gather c k (omega arith) h)
    where
      rest : Slaves
      rest = gather F.master (λ i. tree_of F (F.node i)) c k

      go : (b : Bool) → same (F.master k) c ≡ b → AboveS rest
          → AboveS (cond b (snoc rest k (tree_of F (F.node k))) rest)
      go true e v = (v, h k (omega arith) (same→≡ (F.master k) c e))
      go false e v = v

  pub above_node : (f j : ℕ) → j < f → j < F.nodes → Above (tree_of F j)
  above_node zero j p l = absurd (omega arith)
  above_node (suc f) j p l = go (F.kind j) refl (λ i a. above_node f i (omega arith) (omega arith))
    where
      go : (k : ℕ) → F.kind j ≡ k → ((i : ℕ) → i < j → Above (tree_of F i)) → Above (tree_of F j)
      go zero e ih =
          rw (tree₀ F w j l e) (above_whole (F.a j) _ (λ d. gather_above (F.a j) F.slaves d (omega arith))
          (above_gather (F.a j) F.slaves (omega arith) (λ i a b. ih (F.node i) (w.lower₀ j l e i a b))))
      go (suc zero) e ih = let h = w.lower₁ j l e in rw (tree₁ F w j l e) (ih (F.a j) h.0, ih (F.b j) h.1)
      go (suc (suc k)) e ih = let e₂ : F.kind j ≡ 2 = (let h = w.kinds j l in omega arith) in
          rw (tree₂ F w j l e₂) (ih (F.a j) (w.lower₂ j l e₂))
