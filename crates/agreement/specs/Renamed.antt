-- The nodes of the rewritten file give the rewritten tree (`tree_ren`), whatever file holds them: what is asked of it
-- is in NodesR. That those laid down are such is in Laid.
use Rattle.std.specs.Prelude.{◌≡◌, Bool, true, false, ◌&&◌, [], ◌∷◌}
use Rattle.std.proofs.Math.Path.{refl, sym, ap}
use Rattle.std.proofs.Common.{◌∙◌, add-zero, zero-add}
use Rattle.std.proofs.Math.Bool.{cond}
use Prim.Native.Nat.{ℕ, zero, suc, ◌+◌, ◌≤◌, ◌<◌}
use native.Mathlib.Omega.{arith}
use Rattle.meaning.specs.Meaning.{Set, ∅, same, Tree, Slaves, leaf, hide, dec, nil, snoc}
use Rattle.signals.specs.Mask.{◌∪◌, single}
use Rattle.signals.specs.Decide.{sets, A, ∅ₑ, ◌∪ₑ◌, ◌≐◌}
use Rattle.layout.specs.declared.record.Transition.{Transition}
use Rattle.meaning.specs.Laws.Bools.{same→≡}
use Rattle.agreement.specs.Tree.{calls, tree, nest, touch}
use Rattle.agreement.specs.Fit.{slaves_of}
use Rattle.meaning.specs.Rewriting.{union_up_to, call, calls_by, calls_of, is_of, touches, count, start, new_name}
use Rattle.meaning.specs.File.{File, whole, gather, tree_of}
use Rattle.meaning.specs.Laws.Trees.{Ordered, tree₀, tree₁, tree₂}
use Rattle.meaning.specs.Sums.{one, tally}
use Rattle.meaning.specs.Sums.Laws.{tally_plus}

-- of the slaves of a chart, fewer come before one of them than before a later record
pub count_less : (F : File) (c i k : ℕ) → i < k → same (F.master i) c ≡ true → count F c i < count F c k
count_less F c i k l e =
    let h = tally_plus k (λ i. one (same (F.master i) c)) i l in
    let b : one (same (F.master i) c) ≡ 1 = ap one e in
    omega arith

module _ (F : File) where
  -- the call signals over its slaves are those by the records
  pub calls-of : (c : ℕ) → calls (call F) (slaves_of F c) ≡ calls_of F c
  unfolding calls_of union_up_to gather calls
  calls-of c = up F.slaves
    where
      up : (k : ℕ) → calls (call F) (gather F.master (λ i. tree_of F (F.node i)) c k)
          ≡ union_up_to k (λ i. cond (is_of F c i) (single (call F i)) ∅)
      up zero = refl
      up (suc k) = split (is_of F c k) ∙ ap (λ z. z ∪ cond (is_of F c k) (single (call F k)) ∅) (up k)
        where
          ss : Slaves
          ss = gather F.master (λ i. tree_of F (F.node i)) c k

          split : (b : Bool) → calls (call F) (cond b (snoc ss k (tree_of F (F.node k))) ss)
              ≡ calls (call F) ss ∪ cond b (single (call F k)) ∅
          split true = refl
          split false = sets (calls (call F) ss ∷ []) [] (A ≐ A ∪ₑ ∅ₑ) tt

  pub touch-of : (c : ℕ) (t : Transition) → touch (call F) F.state (slaves_of F c) t ≡ calls_by F c t
  unfolding calls_by union_up_to gather touch
  touch-of c t = up F.slaves
    where
      up : (k : ℕ) → touch (call F) F.state (gather F.master (λ i. tree_of F (F.node i)) c k) t
          ≡ union_up_to k (λ i. cond (is_of F c i && touches F t i) (single (call F i)) ∅)
      up zero = refl
      up (suc k) = split (is_of F c k) ∙ ap (λ z. z ∪ cond (is_of F c k && touches F t k) (single (call F k)) ∅) (up k)
        where
          ss : Slaves
          ss = gather F.master (λ i. tree_of F (F.node i)) c k

          split : (b : Bool) → touch (call F) F.state (cond b (snoc ss k (tree_of F (F.node k))) ss) t
              ≡ touch (call F) F.state ss t ∪ cond (b && touches F t k) (single (call F k)) ∅
          split true = refl
          split false = sets (touch (call F) F.state ss t ∷ []) [] (A ≐ A ∪ₑ ∅ₑ) tt

-- start F j: the first new node made for node j; newName F j: the last, by which it is named
pub record NodesR (F F' : File) : Type 0 where
  pub no_slaves : F'.slaves ≡ 0
  pub there : (j : ℕ) → j < F.nodes → new_name F j < F'.nodes
  -- other nodes stay
  pub comp_kind : (j : ℕ) → j < F.nodes → F.kind j ≡ 1 → F'.kind (new_name F j) ≡ 1
  pub comp_a : (j : ℕ) → j < F.nodes → F.kind j ≡ 1 → F'.a (new_name F j) ≡ new_name F (F.a j)
  pub comp_b : (j : ℕ) → j < F.nodes → F.kind j ≡ 1 → F'.b (new_name F j) ≡ new_name F (F.b j)
  pub comp_x : (j : ℕ) → j < F.nodes → F.kind j ≡ 1 → F'.x (new_name F j) ≡ F.x j
  pub hide_kind : (j : ℕ) → j < F.nodes → F.kind j ≡ 2 → F'.kind (new_name F j) ≡ 2
  pub hide_a : (j : ℕ) → j < F.nodes → F.kind j ≡ 2 → F'.a (new_name F j) ≡ new_name F (F.a j)
  pub hide_x_lem : (j : ℕ) → j < F.nodes → F.kind j ≡ 2 → F'.x (new_name F j) ≡ F.x j
  pub hide_y_lem : (j : ℕ) → j < F.nodes → F.kind j ≡ 2 → F'.y (new_name F j) ≡ F.y j
  -- a chart's node comes first, then one composed node a slave, then the hidden node
  pub base_kind : (j : ℕ) → j < F.nodes → F.kind j ≡ 0 → F'.kind (start F j) ≡ 0
  pub base_a : (j : ℕ) → j < F.nodes → F.kind j ≡ 0 → F'.a (start F j) ≡ F.a j
  pub plain : (j : ℕ) → j < F.nodes → F.kind j ≡ 0 → count F (F.a j) F.slaves ≡ 0 → new_name F j ≡ start F j
  pub part_kind : (j i : ℕ) → j < F.nodes → F.kind j ≡ 0 → i < F.slaves → F.master i ≡ F.a j
      → F'.kind (start F j + suc (count F (F.a j) i)) ≡ 1
  pub part-a : (j i : ℕ) → j < F.nodes → F.kind j ≡ 0 → i < F.slaves → F.master i ≡ F.a j
      → F'.a (start F j + suc (count F (F.a j) i)) ≡ start F j + count F (F.a j) i
  pub part-b : (j i : ℕ) → j < F.nodes → F.kind j ≡ 0 → i < F.slaves → F.master i ≡ F.a j
      → F'.b (start F j + suc (count F (F.a j) i)) ≡ new_name F (F.node i)
  pub part-x : (j i : ℕ) → j < F.nodes → F.kind j ≡ 0 → i < F.slaves → F.master i ≡ F.a j
      → F'.x (start F j + suc (count F (F.a j) i)) ≡ (F.chart (F.a j)).feedback ∪ calls_of F (F.a j)
  pub whole-at : (j : ℕ) → j < F.nodes → F.kind j ≡ 0 → 0 < count F (F.a j) F.slaves
      → new_name F j ≡ start F j + suc (count F (F.a j) F.slaves)
  pub whole_kind : (j : ℕ) → j < F.nodes → F.kind j ≡ 0 → 0 < count F (F.a j) F.slaves
      → F'.kind (new_name F j) ≡ 2
  pub whole-a : (j : ℕ) → j < F.nodes → F.kind j ≡ 0 → 0 < count F (F.a j) F.slaves
      → F'.a (new_name F j) ≡ start F j + count F (F.a j) F.slaves
  pub whole-x : (j : ℕ) → j < F.nodes → F.kind j ≡ 0 → 0 < count F (F.a j) F.slaves
      → F'.x (new_name F j) ≡ calls_of F (F.a j)
  pub whole_y : (j : ℕ) → j < F.nodes → F.kind j ≡ 0 → 0 < count F (F.a j) F.slaves
      → F'.y (new_name F j) ≡ calls_of F (F.a j)

gather_nil : (sc : ℕ → ℕ) (g : ℕ → Tree) (c k : ℕ) → tally k (λ i. one (same (sc i) c)) ≡ 0 → gather sc g c k ≡ nil
unfolding gather tally
gather_nil sc g c zero e = refl
gather_nil sc g c (suc k) e = go (same (sc k) c) e (λ h. gather_nil sc g c k h)
  where
    go : (b : Bool) → one b + tally k (λ i. one (same (sc i) c)) ≡ 0
        → (tally k (λ i. one (same (sc i) c)) ≡ 0 → gather sc g c k ≡ nil)
        → cond b (snoc (gather sc g c k) k (g k)) (gather sc g c k) ≡ nil
    go true e r = absurd (omega arith)
    go false e r = r (omega arith)

gather_some : (sc : ℕ → ℕ) (g : ℕ → Tree) (c k : ℕ) → 0 < tally k (λ i. one (same (sc i) c))
    → whole c (gather sc g c k) ≡ dec c (gather sc g c k)
unfolding gather tally
gather_some sc g c zero e = absurd (omega arith)
gather_some sc g c (suc k) e = go (same (sc k) c) e (λ h. gather_some sc g c k h)
  where
    rest : Slaves
    rest = gather sc g c k

    go : (b : Bool) → 0 < one b + tally k (λ i. one (same (sc i) c))
        → (0 < tally k (λ i. one (same (sc i) c)) → whole c rest ≡ dec c rest)
        → whole c (cond b (snoc rest k (g k)) rest) ≡ dec c (cond b (snoc rest k (g k)) rest)
    go true e r = refl
    go false e r = r (omega arith)

module _ (F F' : File) (w : Ordered F) (w' : Ordered F') (nr : NodesR F F') where
  abbrev fbs : ℕ → Set
  fbs c = (F.chart c).feedback

  -- the feedback of the nodes composed for node j
  abbrev X : ℕ → Set
  X j = (F.chart (F.a j)).feedback ∪ calls_of F (F.a j)

  leaf_at : (p : ℕ) → p < F'.nodes → F'.kind p ≡ 0 → tree_of F' p ≡ leaf (F'.a p)
  unfolding gather
  leaf_at p l e = tree₀ F' w' p l e
      ∙ ap (λ k. whole (F'.a p) (gather F'.master (λ i. tree_of F' (F'.node i)) (F'.a p) k)) nr.no_slaves

  -- the nodes made for a master, up to the first k slaves
  nest_at : (j : ℕ) → j < F.nodes → F.kind j ≡ 0 → start F j + count F (F.a j) F.slaves < F'.nodes
      → ((i : ℕ) → i < j → tree_of F' (new_name F i) ≡ tree (call F) fbs (tree_of F i)) → (k : ℕ) → k ≤ F.slaves
      → tree_of F' (start F j + count F (F.a j) k)
      ≡ nest (call F) fbs (gather F.master (λ i. tree_of F (F.node i)) (F.a j) k) (F.a j) (X j)
  unfolding gather tally tree
  nest_at j l e b ih zero m =
      ap (tree_of F') (add-zero (start F j)) ∙ leaf_at (start F j) (omega arith) (nr.base_kind j l e)
      ∙ ap leaf (nr.base_a j l e)
  nest_at j l e b ih (suc k) m = go (same (F.master k) (F.a j)) refl (nest_at j l e b ih k (omega arith))
    where
      c : ℕ
      c = F.a j

      rest : Slaves
      rest = gather F.master (λ i. tree_of F (F.node i)) c k

      go : (d : Bool) → same (F.master k) c ≡ d → tree_of F' (start F j + count F c k) ≡ nest (call F) fbs rest c (X j)
          → tree_of F' (start F j + (one d + count F c k))
          ≡ nest (call F) fbs (cond d (snoc rest k (tree_of F (F.node k))) rest) c (X j)
      go true p r = let q = same→≡ (F.master k) c p in
          let h = count_less F c k F.slaves m p in
          ap (λ z. tree_of F' (start F j + z)) step
          ∙ tree₁ F' w' (start F j + suc (count F c k)) (omega arith) (nr.part_kind j k l e m q)
          ∙ rw (
            nr.part-a j k l e m q,
            nr.part-b j k l e m q,
            nr.part-x j k l e m q,
            r,
            ih (F.node k) (w.lower₀ j l e k m q),
          )
        where
          step : 1 + count F c k ≡ suc (count F c k)
          step = omega arith
      go false p r = ap (λ z. tree_of F' (start F j + z)) (zero-add (count F c k)) ∙ r

  pub tree_ren : (f j : ℕ) → j < f → j < F.nodes → tree_of F' (new_name F j) ≡ tree (call F) fbs (tree_of F j)
  unfolding tree
  tree_ren zero j p l = absurd (omega arith)
  tree_ren (suc f) j p l = go (F.kind j) refl (λ i a. tree_ren f i (omega arith) (omega arith))
    where
      go : (k : ℕ) → F.kind j ≡ k → ((i : ℕ) → i < j → tree_of F' (new_name F i) ≡ tree (call F) fbs (tree_of F i))
          → tree_of F' (new_name F j) ≡ tree (call F) fbs (tree_of F j)
      go zero e ih = rw (tree₀ F w j l e) (cases (count F (F.a j) F.slaves) refl)
        where
          cases : (x : ℕ) → count F (F.a j) F.slaves ≡ x
              → tree_of F' (new_name F j) ≡ tree (call F) fbs (whole (F.a j) (slaves_of F (F.a j)))
          cases zero z = ap (tree_of F') (nr.plain j l e z)
              ∙ leaf_at (start F j) (rw (nr.plain j l e z) at (nr.there j l)) (nr.base_kind j l e)
              ∙ ap leaf (nr.base_a j l e)
              ∙ sym (ap (λ ss. tree (call F) fbs (whole (F.a j) ss))
              (gather_nil F.master (λ i. tree_of F (F.node i)) (F.a j) F.slaves z))
          cases (suc x) z = let h : 0 < count F (F.a j) F.slaves = omega arith in
              let b = rw (nr.whole-at j l e h) at (nr.there j l) in
              tree₂ F' w' (new_name F j) (nr.there j l) (nr.whole_kind j l e h)
              ∙ rw (
                nr.whole-a j l e h,
                nr.whole-x j l e h,
                nr.whole_y j l e h,
                nest_at j l e (omega arith) ih F.slaves (omega arith),
              )
              (ap (λ k. hide (nest (call F) fbs (slaves_of F (F.a j)) (F.a j) ((F.chart (F.a j)).feedback ∪ k)) k k)
              (sym (calls-of F (F.a j)))
              ∙ sym
              (ap (tree (call F) fbs) (gather_some F.master (λ i. tree_of F (F.node i)) (F.a j) F.slaves h)))
      go (suc zero) e ih = let h = w.lower₁ j l e in tree₁ F' w' (new_name F j) (nr.there j l) (nr.comp_kind j l e)
          ∙ rw (
            nr.comp_a j l e,
            nr.comp_b j l e,
            nr.comp_x j l e,
            ih (F.a j) h.0,
            ih (F.b j) h.1,
            tree₁ F w j l e,
          )
      go (suc (suc k)) e ih = let e₂ : F.kind j ≡ 2 = (let h = w.kinds j l in omega arith) in
          tree₂ F' w' (new_name F j) (nr.there j l) (nr.hide_kind j l e₂)
          ∙ rw
          (nr.hide_a j l e₂, nr.hide_x_lem j l e₂, nr.hide_y_lem j l e₂, ih (F.a j) (w.lower₂ j l e₂), tree₂ F w j l e₂)
