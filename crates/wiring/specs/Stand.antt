-- The tree of a file that tests 9 to 11 allow: no chart stands in it twice, each chart's nearest slave is known,
-- masters are lower, and a node's parts share no chart with the nodes in between (Parted).
use Rattle.std.specs.Prelude.{◌≡◌, Bool, true, false, ◌&&◌, ◌||◌, cond, ◌≢◌, ◌⊎◌}
use Rattle.std.proofs.Math.Path.{refl, ap, ap₂, subst}
use Rattle.std.proofs.Common.{sym, ◌∙◌, inl, inr}
use Rattle.std.proofs.lemmas.Bool.{false≢true}
use Rattle.std.proofs.Math.Option.{Option, none, some}
use Prim.Native.Nat.{ℕ, zero, suc, ◌≤◌, ◌<◌}
use native.Mathlib.Omega.{arith}
use Rattle.meaning.specs.Meaning.{same, Tree, Slaves, leaf, comp, hide, dec, nil, snoc}
use Rattle.meaning.specs.Laws.Bools.{or_elim, or_l, same_refl, same→≡, and_i, not-true}
use Rattle.meaning.specs.File.{Has, HasS, File, whole, gather, tree_of}
use Rattle.meaning.specs.Laws.Above.{Above, AboveS}
use Rattle.meaning.specs.Laws.Trees.{Ordered, Placed, Rule11, tree₀, tree₁, tree₂, all_there, above_node}
use Rattle.meaning.specs.Laws.Names.{Rule10, by_slave, by_node, enc, kap, find, at_most, by-slave, by_node_lem}
use Rattle.meaning.specs.Laws.Names.{names_a₁}
use Rattle.meaning.specs.Laws.Names.{names_b₁, names_a₂, hold_one, placed, joined, enc-last}
use Rattle.meaning.specs.Sums.{one}
use Rattle.meaning.specs.Sums.Laws.{tally_ge}
use Rattle.meaning.specs.Check.{names, named}
use Rattle.wiring.specs.Reach.{Held, Helds, Enc, Encs}
use Rattle.wiring.specs.Permitted.{Stands}

-- ── the way up from a node ──
module _ (par : ℕ → ℕ) where
  -- j is reached from h
  data Up (h : ℕ) : ℕ → Type 0 where
    here : Up h h
    more : {j : ℕ} → Up h j → j < par j → Up h (par j)

  up_le : (h j : ℕ) → Up h j → h ≤ j
  up_le h j here = omega arith
  up_le h j (more {j = i} u l) = let z = up_le h i u in omega arith

  up_trans : (h i j : ℕ) → Up h i → Up i j → Up h j
  up_trans h i j u here = u
  up_trans h i j u (more {j = k} v l) = more (up_trans h i k u v) l

  -- the first step up
  up_first : (h j : ℕ) → Up h j → (h ≡ j) ⊎ Up (par h) j
  up_first h j here = inl refl
  up_first h j (more {j = i} u l) = go (up_first h i u)
    where
      go : ((h ≡ i) ⊎ Up (par h) i) → (h ≡ par i) ⊎ Up (par h) (par i)
      go (inl e) = inr (subst (λ z. Up (par h) (par z)) e here)
      go (inr v) = inr (more v l)

  -- of two nodes on one way up one is above the other
  up-line : (h i j : ℕ) → Up h i → Up h j → Up i j ⊎ Up j i
  up-line h i j here v = inl v
  up-line h i j (more {j = k} u l) v = go (up-line h k j u v)
    where
      go : (Up k j ⊎ Up j k) → Up (par k) j ⊎ Up j (par k)
      go (inr w) = inr (more w l)
      go (inl w) = step (up_first k j w)
        where
          step : ((k ≡ j) ⊎ Up (par k) j) → Up (par k) j ⊎ Up j (par k)
          step (inl e) = inr (subst (λ z. Up z (par k)) e (more here l))
          step (inr x) = inl x

  -- two parts of one node share nothing
  up_apart : (h i k j : ℕ) → i ≢ k → par i ≡ j → par k ≡ j → i < j → k < j → Up h i → Up h k → ⊥
  up_apart h i k j d p q a b u v = go (up-line h i k u v)
    where
      side : (x y : ℕ) → x ≢ y → par x ≡ j → y < j → Up x y → ⊥
      side x y d p b w = st (up_first x y w)
        where
          st : ((x ≡ y) ⊎ Up (par x) y) → ⊥
          st (inl e) = d e
          st (inr z) = let y' = up_le (par x) y z in omega arith

      go : (Up i k ⊎ Up k i) → ⊥
      go (inl w) = side i k d p b w
      go (inr w) = side k i (λ e. d (sym e)) q a w

-- ── the parts of a node ──

-- no node between i and j has a chart of node i's tree
abbrev pub Alone : File → ℕ → ℕ → Type 0
Alone F i j = (k c : ℕ) → i < k → k < j → Has (tree_of F i) c ≡ true → Has (tree_of F k) c ≡ false

-- the nodes that a node names, and those of its chart's slaves, are alone below it; and no lower node has the chart
-- that it holds
pub record Parted (F : File) : Type 0 where
  pub held : (j : ℕ) → j < F.nodes → Held F.charts (tree_of F j)
  pub left : (j : ℕ) → j < F.nodes → F.kind j ≡ 1 → Alone F (F.a j) j
  pub right : (j : ℕ) → j < F.nodes → F.kind j ≡ 1 → Alone F (F.b j) j
  pub inner : (j : ℕ) → j < F.nodes → F.kind j ≡ 2 → Alone F (F.a j) j
  pub slave : (j : ℕ) → j < F.nodes → F.kind j ≡ 0 → (i : ℕ) → i < F.slaves → F.master i ≡ F.a j
      → Alone F (F.node i) j
  pub fresh : (j : ℕ) → j < F.nodes → F.kind j ≡ 0 → (i : ℕ) → i < j → Has (tree_of F i) (F.a j) ≡ false

-- ── parents and holders are one ──
pub record Tidy (F : File) (par hold : ℕ → ℕ) : Type 0 where
  pub par₁ : (j : ℕ) → j < F.nodes → F.kind j ≡ 1 → (par (F.a j) ≡ j) × (par (F.b j) ≡ j) × (F.a j ≢ F.b j)
  pub par₂ : (j : ℕ) → j < F.nodes → F.kind j ≡ 2 → par (F.a j) ≡ j
  pub par₀ : (j : ℕ) → j < F.nodes → F.kind j ≡ 0 → (i : ℕ) → i < F.slaves → F.master i ≡ F.a j
      → par (F.node i) ≡ j
  pub holds : (j : ℕ) → j < F.nodes → F.kind j ≡ 0 → (hold (F.a j) ≡ j) × (F.a j < F.charts)
  pub differ : (i k : ℕ) → i < F.slaves → k < F.slaves → F.node i ≡ F.node k → i ≡ k

-- a chart in gathered slaves is in one of them
gather_in : (sc : ℕ → ℕ) (g : ℕ → Tree) (c k d : ℕ) → HasS (gather sc g c k) d ≡ true
    → (i : ℕ) × (i < k) × (sc i ≡ c) × (Has (g i) d ≡ true)
unfolding gather Has
gather_in sc g c zero d h = absurd (false≢true h)
gather_in sc g c (suc k) d h = go (same (sc k) c) refl h (gather_in sc g c k d)
  where
    lift : ((i : ℕ) × (i < k) × (sc i ≡ c) × (Has (g i) d ≡ true))
        → (i : ℕ) × (i < suc k) × (sc i ≡ c) × (Has (g i) d ≡ true)
    lift u = (u.0, (let l = u.1 in omega arith), u.2, u.3)

    go : (b : Bool) → same (sc k) c ≡ b → HasS (cond b (snoc (gather sc g c k) k (g k)) (gather sc g c k)) d ≡ true
        → (HasS (gather sc g c k) d ≡ true → (i : ℕ) × (i < k) × (sc i ≡ c) × (Has (g i) d ≡ true))
        → (i : ℕ) × (i < suc k) × (sc i ≡ c) × (Has (g i) d ≡ true)
    go false e h r = lift (r h)
    go true e h r = or_elim (Has (g k) d) (HasS (gather sc g c k) d) _ (λ p. (k, omega arith, same→≡ (sc k) c e, p))
        (λ p. lift (r p)) h

whole_in : (c : ℕ) (ss : Slaves) (d : ℕ) → Has (whole c ss) d ≡ true → (same d c || HasS ss d) ≡ true
unfolding Has
whole_in c nil d h = or_l (same d c) false h
whole_in c (snoc ss i t) d h = h

and_none : (a b : Bool) → (a ≡ true → b ≡ true → ⊥) → (a && b) ≡ false
and_none true true f = absurd (f refl refl)
and_none true false f = refl
and_none false b f = refl

module _ (F : File) (w : Ordered F) (par hold : ℕ → ℕ) (ti : Tidy F par hold) where
  -- the tree of j has the chart: j is on the way up from its holder
  reach : (f j c : ℕ) → j < f → j < F.nodes → Has (tree_of F j) c ≡ true → Up par (hold c) j
  unfolding Has
  reach zero j c p l h = absurd (omega arith)
  reach (suc f) j c p l h = go (F.kind j) refl (λ i a. reach f i c (omega arith) (omega arith))
    where
      rise : (i : ℕ) → par i ≡ j → i < j → Up par (hold c) i → Up par (hold c) j
      rise i e a u = subst (λ z. Up par (hold c) z) e (more u (rw e a))

      go : (k : ℕ) → F.kind j ≡ k → ((i : ℕ) → i < j → Has (tree_of F i) c ≡ true → Up par (hold c) i)
          → Up par (hold c) j
      go zero e ih =
          or_elim (same c (F.a j)) (HasS (gather F.master (λ i. tree_of F (F.node i)) (F.a j) F.slaves) c) _
          (λ q. subst (λ z. Up par (hold c) z) (ap hold (same→≡ c (F.a j) q) ∙ (ti.holds j l e).0) here)
          (λ q. let u = gather_in F.master (λ i. tree_of F (F.node i)) (F.a j) F.slaves c q in
          let a = w.lower₀ j l e u.0 u.1 u.2 in
          rise (F.node u.0) (ti.par₀ j l e u.0 u.1 u.2) a (ih (F.node u.0) a u.3))
          (whole_in (F.a j) (gather F.master (λ i. tree_of F (F.node i)) (F.a j) F.slaves) c
          (rw (tree₀ F w j l e) at h))
      go (suc zero) e ih = let a = w.lower₁ j l e in let b = ti.par₁ j l e in
          or_elim (Has (tree_of F (F.a j)) c) (Has (tree_of F (F.b j)) c) _
          (λ q. rise (F.a j) b.0 a.0 (ih (F.a j) a.0 q))
          (λ q. rise (F.b j) b.1 a.1 (ih (F.b j) a.1 q))
          (rw (tree₁ F w j l e) at h)
      go (suc (suc k)) e ih = let e₂ : F.kind j ≡ 2 = (let h = w.kinds j l in omega arith) in
          let a = w.lower₂ j l e₂ in
          rise (F.a j) (ti.par₂ j l e₂) a (ih (F.a j) a (rw (tree₂ F w j l e₂) at h))

  held-gather : (j k : ℕ) → j < F.nodes → F.kind j ≡ 0 → k ≤ F.slaves
      → ((i : ℕ) → i < F.slaves → F.master i ≡ F.a j → Held F.charts (tree_of F (F.node i)))
      → Helds F.charts (gather F.master (λ i. tree_of F (F.node i)) (F.a j) k)
  unfolding gather
  held-gather j zero l e b h = tt
  held-gather j (suc k) l e b h = go (same (F.master k) (F.a j)) refl (held-gather j k l e (omega arith) h)
    where
      rest : Slaves
      rest = gather F.master (λ i. tree_of F (F.node i)) (F.a j) k

      go : (x : Bool) → same (F.master k) (F.a j) ≡ x → Helds F.charts rest
          → Helds F.charts (cond x (snoc rest k (tree_of F (F.node k))) rest)
      go true q r = let s = same→≡ (F.master k) (F.a j) q in let lk = w.lower₀ j l e k (omega arith) s in (
        r,
        h k (omega arith) s,
        λ c. and_none (Has (tree_of F (F.node k)) c) (HasS rest c) (λ p p'.
            let u = gather_in F.master (λ i. tree_of F (F.node i)) (F.a j) k c p' in let ui = u.1 in
            let lu = w.lower₀ j l e u.0 (omega arith) u.2 in
            let d : F.node k ≢ F.node u.0 =
            λ z. (let v : k ≡ u.0 = ti.differ k u.0 (omega arith) (omega arith) z in omega arith) in
            up_apart par (hold c) (F.node k) (F.node u.0) j d (ti.par₀ j l e k (omega arith) s)
            (ti.par₀ j l e u.0 (omega arith) u.2) lk lu
            (reach F.nodes (F.node k) c (omega arith) (omega arith) p)
            (reach F.nodes (F.node u.0) c (omega arith) (omega arith) u.3)),
      )
      go false q r = r

  held_whole : (c : ℕ) (ss : Slaves) → c < F.charts → Helds F.charts ss → HasS ss c ≡ false
      → Held F.charts (whole c ss)
  held_whole c nil l h q = l
  held_whole c (snoc ss i t) l h q = (l, h, q)

  held_node : (f j : ℕ) → j < f → j < F.nodes → Held F.charts (tree_of F j)
  held_node zero j p l = absurd (omega arith)
  held_node (suc f) j p l = go (F.kind j) refl (λ i a. held_node f i (omega arith) (omega arith))
    where
      go : (k : ℕ) → F.kind j ≡ k → ((i : ℕ) → i < j → Held F.charts (tree_of F i)) → Held F.charts (tree_of F j)
      go zero e ih = let hj = ti.holds j l e in
          rw (tree₀ F w j l e)
          (held_whole (F.a j) (gather F.master (λ i. tree_of F (F.node i)) (F.a j) F.slaves) hj.1
          (held-gather j F.slaves l e (omega arith) (λ i a b. ih (F.node i) (w.lower₀ j l e i a b)))
          (not-true (λ q. let u = gather_in F.master (λ i. tree_of F (F.node i)) (F.a j) F.slaves (F.a j) q in
          let a = w.lower₀ j l e u.0 u.1 u.2 in
          let z = up_le par (hold (F.a j)) (F.node u.0)
          (reach F.nodes (F.node u.0) (F.a j) (omega arith) (omega arith) u.3) in
          let y = hj.0 in omega arith)))
      go (suc zero) e ih = let a = w.lower₁ j l e in let b = ti.par₁ j l e in rw (tree₁ F w j l e) (
        ih (F.a j) a.0,
        ih (F.b j) a.1,
        λ c. and_none (Has (tree_of F (F.a j)) c) (Has (tree_of F (F.b j)) c) (λ p q.
            let a0 = a.0 in let a1 = a.1 in
            up_apart par (hold c) (F.a j) (F.b j) j b.2 b.0 b.1 a0 a1
            (reach F.nodes (F.a j) c (omega arith) (omega arith) p)
            (reach F.nodes (F.b j) c (omega arith) (omega arith) q)),
      )
      go (suc (suc k)) e ih = let e₂ : F.kind j ≡ 2 = (let h = w.kinds j l in omega arith) in
          rw (tree₂ F w j l e₂) (ih (F.a j) (w.lower₂ j l e₂))

  -- a node is alone below the one that it is a part of
  part_alone : (i j : ℕ) → j < F.nodes → par i ≡ j → Alone F i j
  part_alone i j l e k c p q h =
      not-true (λ h'. go (up-line par (hold c) i k (reach F.nodes i c (omega arith) (omega arith) h)
      (reach F.nodes k c (omega arith) (omega arith) h')))
    where
      first : ((i ≡ k) ⊎ Up par (par i) k) → ⊥
      first (inl z) = omega arith
      first (inr u) = let z = up_le par (par i) k u in omega arith

      go : (Up par i k ⊎ Up par k i) → ⊥
      go (inl u) = first (up_first par i k u)
      go (inr u) = let z = up_le par k i u in omega arith

  parted-by : Parted F
  parted-by =
      record {
        held = λ j l. held_node F.nodes j l l;
        left = λ j l e. part_alone (F.a j) j l (ti.par₁ j l e).0;
        right = λ j l e. part_alone (F.b j) j l (ti.par₁ j l e).1;
        inner = λ j l e. part_alone (F.a j) j l (ti.par₂ j l e);
        slave = λ j l e i m q. part_alone (F.node i) j l (ti.par₀ j l e i m q);
        fresh = λ j l e i m. not-true (λ h.
            let z = up_le par (hold (F.a j)) i (reach F.nodes i (F.a j) (omega arith) (omega arith) h) in
            let y = (ti.holds j l e).0 in omega arith);
      }

-- ── the slaves of the charts, from where the nodes stand ──
module _ (F : File) (w : Ordered F) (enc_n kapC : ℕ → Option ℕ) (pl : Placed F enc_n kapC) where
  enc-gather : (c k : ℕ) → k ≤ F.slaves
      → ((i : ℕ) → i < F.slaves → F.master i ≡ c → Enc kapC F.master (tree_of F (F.node i)) (some i))
      → Encs kapC F.master (gather F.master (λ i. tree_of F (F.node i)) c k) c
  unfolding gather
  enc-gather c zero b h = tt
  enc-gather c (suc k) b h = go (same (F.master k) c) refl (enc-gather c k (omega arith) h)
    where
      rest : Slaves
      rest = gather F.master (λ i. tree_of F (F.node i)) c k

      go : (x : Bool) → same (F.master k) c ≡ x → Encs kapC F.master rest c
          → Encs kapC F.master (cond x (snoc rest k (tree_of F (F.node k))) rest) c
      go true q r = let s = same→≡ (F.master k) c q in (r, s, h k (omega arith) s)
      go false q r = r

  enc-whole : (c : ℕ) (ss : Slaves) (κ : Option ℕ) → kapC c ≡ κ → Encs kapC F.master ss c
      → Enc kapC F.master (whole c ss) κ
  enc-whole c nil κ e h = e
  enc-whole c (snoc ss i t) κ e h = (e, h)

  enc_tree : (f j : ℕ) → j < f → j < F.nodes → Enc kapC F.master (tree_of F j) (enc_n j)
  enc_tree zero j p l = absurd (omega arith)
  enc_tree (suc f) j p l = go (F.kind j) refl (λ i a. enc_tree f i (omega arith) (omega arith))
    where
      go : (k : ℕ) → F.kind j ≡ k → ((i : ℕ) → i < j → Enc kapC F.master (tree_of F i) (enc_n i))
          → Enc kapC F.master (tree_of F j) (enc_n j)
      go zero e ih = rw (tree₀ F w j l e)
          (enc-whole (F.a j) (gather F.master (λ i. tree_of F (F.node i)) (F.a j) F.slaves) (enc_n j)
          (pl.hold j l e).1
          (enc-gather (F.a j) F.slaves (omega arith)
          (λ i a b. rw (pl.in₀ j l e i a b) at (ih (F.node i) (w.lower₀ j l e i a b)))))
      go (suc zero) e ih = let h = w.lower₁ j l e in let q = pl.in₁ j l e in
          rw (tree₁ F w j l e) (rw q.0 at (ih (F.a j) h.0), rw q.1 at (ih (F.b j) h.1))
      go (suc (suc k)) e ih = let e₂ : F.kind j ≡ 2 = (let h = w.kinds j l in omega arith) in
          rw (tree₂ F w j l e₂) (rw (pl.in₂ j l e₂) at (ih (F.a j) (w.lower₂ j l e₂)))

-- masters are lower
module _ (encC : ℕ → Option ℕ) (sc : ℕ → ℕ) where
  abbrev Lower : ℕ → Type 0
  Lower c = (i : ℕ) × (encC c ≡ some i) × (sc i < c)

  mutual
    unfolding Has

    low_tree : (t : Tree) (κ : Option ℕ) → Enc encC sc t κ → Above t → (c : ℕ) → Has t c ≡ true → (encC c ≡ κ) ⊎ Lower c
    low_tree (leaf d) κ k v c h = inl (ap encC (same→≡ c d h) ∙ k)
    low_tree (comp l r x) κ k v c h =
        or_elim (Has l c) (Has r c) _ (λ e. low_tree l κ k.0 v.0 c e) (λ e. low_tree r κ k.1 v.1 c e) h
    low_tree (hide l x y) κ k v c h = low_tree l κ k v c h
    low_tree (dec d ss) κ k v c h =
        or_elim (same c d) (HasS ss c) _ (λ e. inl (ap encC (same→≡ c d e) ∙ k.0))
        (λ e. inr (low-slaves ss d k.1 v.1 c e (v.0 c e))) h

    low-slaves : (ss : Slaves) (d : ℕ) → Encs encC sc ss d → AboveS ss → (c : ℕ) → HasS ss c ≡ true → d < c → Lower c
    low-slaves nil d k v c h l = absurd (false≢true h)
    low-slaves (snoc ss i t) d k v c h l =
        or_elim (Has t c) (HasS ss c) _ (λ e. go (low_tree t (some i) k.2 v.1 c e))
        (λ e. low-slaves ss d k.0 v.0 c e l) h
      where
        go : ((encC c ≡ some i) ⊎ Lower c) → Lower c
        go (inl e) = (i, e, (let z = k.1 in omega arith))
        go (inr u) = u

-- ── tests 10 and 11 give all this ──
module _ (F : File) (w : Ordered F) (r : Rule10 F) (r11 : Rule11 F)
    (chart_there : (j : ℕ) → j < F.nodes → F.kind j ≡ 0 → F.a j < F.charts)
    (node-there : (i : ℕ) → i < F.slaves → (F.node i < F.nodes) × (F.master i < F.charts)) where
  -- the node that holds chart c, and the one that names node j, or whose chart has it as a slave's
  abbrev or_zero : Option ℕ → ℕ
  or_zero none = zero
  or_zero (some k) = k

  hold_f : ℕ → ℕ
  hold_f c = or_zero (find F.nodes (λ k. same (F.kind k) 0 && same (F.a k) c))

  abbrev par_by : Option ℕ → Option ℕ → ℕ
  par_by (some i) b = hold_f (F.master i)
  par_by none b = or_zero b

  par_f : ℕ → ℕ
  par_f j = par_by (by_slave F j) (by_node F j)

  hold_is : (j : ℕ) → j < F.nodes → F.kind j ≡ 0 → hold_f (F.a j) ≡ j
  unfolding hold_f
  hold_is j l e = ap or_zero (hold_one F w r j l e (chart_there j l e))

  by : (k j : ℕ) → j < F.nodes → k < F.nodes → 0 < names F k j → par_f j ≡ k
  unfolding par_f
  by k j l m p = let u = by_node_lem F w r k j l m p in ap₂ par_by u.0 u.1

  twice : (j : ℕ) → j < F.nodes → F.kind j ≡ 1 → F.a j ≢ F.b j
  unfolding names named
  twice j l e q = let a = w.lower₁ j l e in let a0 = a.0 in
      let x : one (same (F.kind j) 1 && same (F.a j) (F.a j)) ≡ 1 =
      ap one (and_i (ap (λ z. same z 1) e ∙ same_refl 1) (same_refl (F.a j))) in
      let y : one (same (F.kind j) 1 && same (F.b j) (F.a j)) ≡ 1 =
      ap one (and_i (ap (λ z. same z 1) e ∙ same_refl 1) (ap (λ z. same z (F.a j)) (sym q) ∙ same_refl (F.a j))) in
      let g = tally_ge F.nodes (λ k. names F k (F.a j)) j l in
      let m = at_most F w r (F.a j) (omega arith) in omega arith

  tidy : Tidy F par_f hold_f
  unfolding par_f
  tidy = record {
    par₁ = λ j l e. let h = w.lower₁ j l e in let a = h.0 in let b = h.1 in (
      by j (F.a j) (omega arith) l (names_a₁ F w r j e),
      by j (F.b j) (omega arith) l (names_b₁ F w r j e),
      twice j l e,
    );
    par₂ = λ j l e. let h = w.lower₂ j l e in by j (F.a j) (omega arith) l (names_a₂ F w r j e);
    par₀ = λ j l e i m q.
        ap (λ a. par_by a (by_node F (F.node i))) (by-slave F w r i (F.node i) (node-there i m).0 m refl) ∙ ap hold_f q
        ∙ hold_is j l e;
    holds = λ j l e. (hold_is j l e, chart_there j l e);
    differ = λ i k l m e. let p = by-slave F w r i (F.node i) (node-there i l).0 l refl in
        let q = by-slave F w r k (F.node i) (node-there i l).0 m (sym e) in ap or_zero (sym p ∙ q);
  }

  pub parted : Parted F
  parted = parted-by F w par_f hold_f tidy

  pub stands : (last : ℕ) → suc last ≡ F.nodes → Stands F.charts (kap F) F.master (tree_of F last)
  stands last e = record {
    held = held_node F w par_f hold_f tidy F.nodes last (omega arith) (omega arith);
    has = λ c l. all_there F w (joined F w r chart_there node-there) last c e l;
    encs = root;
    lower = λ c i l q. lower-at c i q (low_tree (kap F) F.master (tree_of F last) none root
        (above_node F w r11 F.nodes last (omega arith) (omega arith)) c
        (all_there F w (joined F w r chart_there node-there) last c e l));
  }
    where
      root : Enc (kap F) F.master (tree_of F last) none
      root = rw (enc-last F w r last e) at
          (enc_tree F w (enc F) (kap F) (placed F w r chart_there node-there) F.nodes last (omega arith)
          (omega arith))

      lower-at : (c i : ℕ) → kap F c ≡ some i → ((kap F c ≡ none) ⊎ Lower (kap F) F.master c) → F.master i < c
      lower-at c i q (inl z) = absurd (let y : ◌≡◌ {A = ℕ} 0 1 = cc in omega arith)
      lower-at c i q (inr u) = let y : i ≡ u.0 = cc u.1 in let h = u.2 in rw y h
