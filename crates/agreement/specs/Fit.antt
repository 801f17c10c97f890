-- How charts stand in a file's tree, as the theorem on outcomes assumes it: each in its nearest slave, with its slaves.
-- And that the nearest slave, found from the whole down, is the one found from the chart up.
use Rattle.std.specs.Prelude.{◌≡◌, Bool, true, false, ◌||◌, cond}
use Rattle.std.proofs.Math.Path.{refl}
use Rattle.std.proofs.Common.{sym, ◌∙◌, ap, subst, arith}
use Rattle.std.proofs.lemmas.Bool.{false≢true}
use Rattle.std.proofs.Math.Option.{Option, none, some}
use Prim.Native.Nat.{ℕ, zero, suc, ◌≤◌, ◌<◌}
use Rattle.meaning.specs.Meaning.{same, Tree, Slaves, leaf, comp, hide, dec, nil, snoc}
use Rattle.meaning.specs.File.{File, Has, HasS, gather, whole, tree_of}
use Rattle.meaning.specs.Rewriting.{nearest_in, nearest_among}
use Rattle.meaning.specs.Laws.Bools.{same→≡}
use Rattle.meaning.specs.Laws.Trees.{Ordered, Placed, tree₀, tree₁, tree₂}
use Rattle.agreement.specs.Same.{Old, Apart, Some}

module _ (sig : ℕ → ℕ) (kap : ℕ → Option ℕ) (slv : ℕ → Slaves) (N : ℕ) where
  abbrev mutual
    pub Fit : Tree → Option ℕ → Type 0
    Fit (leaf c) κ = (c < N) × (kap c ≡ κ) × (slv c ≡ nil)
    Fit (comp p q x) κ = Fit p κ × Fit q κ
    Fit (hide p x y) κ = Old sig x × Fit p κ
    Fit (dec c ss) κ = (c < N) × (kap c ≡ κ) × (slv c ≡ ss) × Some ss × FitS ss κ

    pub FitS : Slaves → Option ℕ → Type 0
    FitS nil κ = Unit {0}
    FitS (snoc ss i t) κ = FitS ss κ × Apart sig κ i × Fit t (some i)

-- ── in a file ──

-- chart c's slaves with their trees
abbrev pub slaves_of : File → ℕ → Slaves
slaves_of F c = gather F.master (λ i. tree_of F (F.node i)) c F.slaves

module _ (F : File) (w : Ordered F) (enc kap : ℕ → Option ℕ) (pl : Placed F enc kap) (sig : ℕ → ℕ)
    (hid : (j : ℕ) → j < F.nodes → F.kind j ≡ 2 → Old sig (F.x j)) where
  abbrev slv : ℕ → Slaves
  slv = slaves_of F

  fit_whole : (c : ℕ) (κ : Option ℕ) (ss : Slaves) → c < F.charts → kap c ≡ κ → slv c ≡ ss
      → FitS sig kap slv F.charts ss κ
      → Fit sig kap slv F.charts (whole c ss) κ
  fit_whole c κ nil l p q f = (l, p, q)
  fit_whole c κ (snoc ss i t) l p q f = (l, p, q, tt, f)

  apart : (j i : ℕ) → j < F.nodes → F.node i < j → (κ : Option ℕ) → enc j ≡ κ → Apart sig κ i
  apart j i l h none e = tt
  apart j i l h (some k) e =
      λ q. let b = pl.under j k l e in let b' : j ≤ F.node i = subst (λ z. j ≤ F.node z) q b in omega arith

  fit_gather : (c k : ℕ) (κ : Option ℕ) → k ≤ F.slaves
      → ((i : ℕ) → i < F.slaves → F.master i ≡ c
      → Apart sig κ i × Fit sig kap slv F.charts (tree_of F (F.node i)) (some i))
      → FitS sig kap slv F.charts (gather F.master (λ i. tree_of F (F.node i)) c k) κ
  unfolding gather
  fit_gather c zero κ l h = tt
  fit_gather c (suc k) κ l h = go (same (F.master k) c) refl (fit_gather c k κ (omega arith) h)
    where
      rest : Slaves
      rest = gather F.master (λ i. tree_of F (F.node i)) c k

      go : (b : Bool) → same (F.master k) c ≡ b → FitS sig kap slv F.charts rest κ
          → FitS sig kap slv F.charts (cond b (snoc rest k (tree_of F (F.node k))) rest) κ
      go true e f = let p = h k (omega arith) (same→≡ (F.master k) c e) in (f, p.0, p.1)
      go false e f = f

  pub fit_node : (f j : ℕ) → j < f → j < F.nodes → Fit sig kap slv F.charts (tree_of F j) (enc j)
  fit_node zero j p l = absurd (omega arith)
  fit_node (suc f) j p l = go (F.kind j) refl (λ i a. fit_node f i (omega arith) (omega arith))
    where
      go : (k : ℕ) → F.kind j ≡ k → ((i : ℕ) → i < j → Fit sig kap slv F.charts (tree_of F i) (enc i))
          → Fit sig kap slv F.charts (tree_of F j) (enc j)
      go zero e ih =
          rw (tree₀ F w j l e) (fit_whole (F.a j) (enc j) (slv (F.a j)) (pl.hold j l e).0 (pl.hold j l e).1 refl
          (fit_gather (F.a j) F.slaves (enc j) (omega arith) (λ i a b. let h = w.lower₀ j l e i a b in
          (apart j i l h (enc j) refl, rw (pl.in₀ j l e i a b) at (ih (F.node i) h)))))
      go (suc zero) e ih = let h = w.lower₁ j l e in let q = pl.in₁ j l e in
          rw (tree₁ F w j l e) (rw q.0 at (ih (F.a j) h.0), rw q.1 at (ih (F.b j) h.1))
      go (suc (suc k)) e ih = let e₂ : F.kind j ≡ 2 = (let h = w.kinds j l in omega arith) in
          rw (tree₂ F w j l e₂) (hid j l e₂, rw (pl.in₂ j l e₂) at (ih (F.a j) (w.lower₂ j l e₂)))

-- ── the nearest slave ──

module _ (sig : ℕ → ℕ) (kap : ℕ → Option ℕ) (slv : ℕ → Slaves) (N : ℕ) (c : ℕ) where
  choose : (b b' : Bool) (p q k : Option ℕ) → (b ≡ true → p ≡ k) → (b' ≡ true → q ≡ k) → (b || b') ≡ true
      → cond b p q ≡ k
  choose true b' p q k f g h = f refl
  choose false b' p q k f g h = g h

  mutual
    unfolding nearest_in Has

    pub nearest_fit : (t : Tree) (κ : Option ℕ) → Fit sig kap slv N t κ → Has t c ≡ true → nearest_in t κ c ≡ kap c
    nearest_fit (leaf d) κ f h = sym (ap kap (same→≡ c d h) ∙ f.1)
    nearest_fit (comp p q x) κ f h =
        choose (Has p c) (Has q c) _ _ _ (λ e. nearest_fit p κ f.0 e) (λ e. nearest_fit q κ f.1 e) h
    nearest_fit (hide p x y) κ f h = nearest_fit p κ f.1 h
    nearest_fit (dec d ss) κ f h = choose (same c d) (HasS ss c) _ _ _ (λ e. sym (ap kap (same→≡ c d e) ∙ f.1))
        (λ e. nearest-fits ss κ f.4 e) h

    nearest-fits : (ss : Slaves) (κ : Option ℕ) → FitS sig kap slv N ss κ → HasS ss c ≡ true
        → nearest_among ss c ≡ kap c
    nearest-fits nil κ f h = absurd (false≢true h)
    nearest-fits (snoc ss i t) κ f h =
        choose (Has t c) (HasS ss c) _ _ _ (λ e. nearest_fit t (some i) f.2 e) (λ e. nearest-fits ss κ f.0 e) h
