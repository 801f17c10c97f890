-- Values of trees that join a value of each chart, less what hiding takes off. Two are used: the input and the output
-- interface (`in_fold`, `out_fold`). In this order: the fold; the value of a node from those of lower nodes, as a table
-- that is filled from node 0 up takes it (`value_fold`); the fold asks for the tree's own charts alone (`fold_own`);
-- the two.
use Rattle.std.specs.Prelude.{◌≡◌, Bool}
use Rattle.std.proofs.Math.Path.{refl, sym, ap, ap₂}
use Rattle.std.proofs.Common.{◌∙◌, add-one, arith}
use Rattle.std.proofs.Math.Bool.{true, false, cond}
use mathlib.Core.List.{[], ◌∷◌}
use Prim.Native.Nat.{ℕ, zero, suc, ◌+◌, ◌<◌}
use Rattle.signals.specs.Mask.{◌∪◌, ◌∖◌}
use Rattle.signals.specs.Decide.{sets, A, B, C, ∅ₑ, ◌∪ₑ◌, ◌≐◌}
use Rattle.meaning.specs.Meaning.{Set, ∅, same, Chart, Tree, Slaves, leaf, comp, hide, dec, nil, snoc}
use Rattle.meaning.specs.Meaning.{in_face_chart, in_face, in_faces, actions, out_face, out_faces}
use Rattle.meaning.specs.File.{File, tree_of, gather, whole, Has, HasS}
use Rattle.meaning.specs.Laws.Bools.{or_l, or_r, same_refl, same→≡, same_≢}
use Rattle.meaning.specs.Laws.Trees.{Ordered, tree₀, tree₁, tree₂}

-- ── the fold ──

-- own: a chart's value; off: what hiding by x and y takes off
module _ (own : ℕ → Set) (off : Set → Set → Set) where
  unfoldable mutual
    pub fold : Tree → Set
    fold (leaf c) = own c
    fold (comp p q x) = fold p ∪ fold q
    fold (hide p x y) = fold p ∖ off x y
    fold (dec c ss) = own c ∪ folds ss

    pub folds : Slaves → Set
    folds nil = ∅
    folds (snoc ss i t) = folds ss ∪ fold t

-- ── the value of a node from those of lower nodes ──

-- the values v of the slaves of chart c among the first k records
unfoldable pub joins : (ℕ → ℕ) → (ℕ → Set) → ℕ → ℕ → Set
joins master v c zero = ∅
joins master v c (suc i) = cond (same (master i) c) (joins master v c i ∪ v i) (joins master v c i)

-- joined with a, as a loop over the slaves takes it: none passed, one more that is the chart's, one more that is not
module _ (master : ℕ → ℕ) (v : ℕ → Set) (c a : ℕ) where
  pub join_none : a ≡ a ∪ joins master v c 0
  unfolding joins
  join_none = sets (a ∷ []) [] (A ≐ A ∪ₑ ∅ₑ) tt

  pub join_more : (i : ℕ) → master i ≡ c → a ∪ joins master v c i ∪ v i ≡ a ∪ joins master v c (i + 1)
  unfolding joins
  join_more i e = rw (add-one, ap (λ z. same z c) e ∙ same_refl c)
      (sets (a ∷ joins master v c i ∷ v i ∷ []) [] (A ∪ₑ B ∪ₑ C ≐ A ∪ₑ (B ∪ₑ C)) tt)

  pub join_other : (i : ℕ) → (master i ≡ c → ⊥) → a ∪ joins master v c i ≡ a ∪ joins master v c (i + 1)
  unfolding joins
  join_other i e = rw (add-one, same_≢ (master i) c e)

-- one of three, by a node's kind
abbrev pub set_by_kind : ℕ → Set → Set → Set → Set
set_by_kind zero p q r = p
set_by_kind (suc zero) p q r = q
set_by_kind (suc (suc k)) p q r = r

-- v: the values of lower nodes
unfoldable pub value_of : File → (ℕ → Set) → (Set → Set → Set) → (ℕ → Set) → ℕ → Set
value_of F own off v j =
    set_by_kind (F.kind j) (own (F.a j) ∪ joins F.master (λ i. v (F.node i)) (F.a j) F.slaves)
    (v (F.a j) ∪ v (F.b j))
    (v (F.a j) ∖ off (F.x j) (F.y j))

module _ (own : ℕ → Set) (off : Set → Set → Set) where
  whole_fold : (c : ℕ) (ss : Slaves) → fold own off (whole c ss) ≡ own c ∪ folds own off ss
  unfolding fold
  whole_fold c nil = sets (own c ∷ []) [] (A ≐ A ∪ₑ ∅ₑ) tt
  whole_fold c (snoc ss i t) = refl

  -- v is the fold at the slaves that are gathered
  joins_fold : (master : ℕ → ℕ) (g : ℕ → Tree) (v : ℕ → Set) (c k : ℕ)
      → ((i : ℕ) → i < k → master i ≡ c → v i ≡ fold own off (g i))
      → joins master v c k ≡ folds own off (gather master g c k)
  unfolding joins fold gather
  joins_fold master g v c zero e = refl
  joins_fold master g v c (suc k) e = go (same (master k) c) refl (joins_fold master g v c k (λ i l. e i (omega arith)))
    where
      go : (b : Bool) → same (master k) c ≡ b → joins master v c k ≡ folds own off (gather master g c k)
          → cond b (joins master v c k ∪ v k) (joins master v c k)
          ≡ folds own off (cond b (snoc (gather master g c k) k (g k)) (gather master g c k))
      go true q r = ap₂ ◌∪◌ r (e k (omega arith) (same→≡ (master k) c q))
      go false q r = r

  module _ (F : File) (w : Ordered F) (v : ℕ → Set) where
    -- a table that is right below j gives what is right at j
    pub value_fold : (j : ℕ) → j < F.nodes → ((k : ℕ) → k < j → v k ≡ fold own off (tree_of F k))
        → value_of F own off v j ≡ fold own off (tree_of F j)
    unfolding value_of fold
    value_fold j l h = go (F.kind j) refl
      where
        go : (k : ℕ) → F.kind j ≡ k
            → set_by_kind k (own (F.a j) ∪ joins F.master (λ i. v (F.node i)) (F.a j) F.slaves)
            (v (F.a j) ∪ v (F.b j))
            (v (F.a j) ∖ off (F.x j) (F.y j)) ≡ fold own off (tree_of F j)
        go zero e =
            ap (λ z. own (F.a j) ∪ z)
            (joins_fold F.master (λ i. tree_of F (F.node i)) (λ i. v (F.node i)) (F.a j) F.slaves
            (λ i m q. h (F.node i) (w.lower₀ j l e i m q)))
            ∙ sym (whole_fold (F.a j) (gather F.master (λ i. tree_of F (F.node i)) (F.a j) F.slaves))
            ∙ ap (fold own off) (sym (tree₀ F w j l e))
        go (suc zero) e = let u = w.lower₁ j l e in
            ap₂ ◌∪◌ (h (F.a j) u.0) (h (F.b j) u.1) ∙ ap (fold own off) (sym (tree₁ F w j l e))
        go (suc (suc k)) e = let e₂ : F.kind j ≡ 2 = (let m = w.kinds j l in omega arith) in
            ap (λ z. z ∖ off (F.x j) (F.y j)) (h (F.a j) (w.lower₂ j l e₂))
            ∙ ap (fold own off) (sym (tree₂ F w j l e₂))

-- ── the tree's own charts alone ──

module _ (own own' : ℕ → Set) (off : Set → Set → Set) where
  mutual
    unfolding fold Has

    pub fold_own : (t : Tree) → ((c : ℕ) → Has t c ≡ true → own c ≡ own' c) → fold own off t ≡ fold own' off t
    fold_own (leaf c) h = h c (same_refl c)
    fold_own (comp p q x) h = ap₂ ◌∪◌ (fold_own p (λ c e. h c (or_l (Has p c) (Has q c) e)))
        (fold_own q (λ c e. h c (or_r (Has p c) (Has q c) e)))
    fold_own (hide p x y) h = ap (λ z. z ∖ off x y) (fold_own p h)
    fold_own (dec d ss) h = ap₂ ◌∪◌ (h d (or_l (same d d) (HasS ss d) (same_refl d)))
        (folds_own ss (λ c e. h c (or_r (same c d) (HasS ss c) e)))

    folds_own : (ss : Slaves) → ((c : ℕ) → HasS ss c ≡ true → own c ≡ own' c) → folds own off ss ≡ folds own' off ss
    folds_own nil h = refl
    folds_own (snoc ss i t) h =
        ap₂ ◌∪◌ (folds_own ss (λ c e. h c (or_r (Has t c) (HasS ss c) e)))
        (fold_own t (λ c e. h c (or_l (Has t c) (HasS ss c) e)))

-- ── the two ──

module _ (E : ℕ → Chart) where
  mutual
    unfolding in_face fold

    pub in_fold : (t : Tree) → in_face E t ≡ fold (λ c. in_face_chart (E c)) (λ x y. x) t
    in_fold (leaf c) = refl
    in_fold (comp p q x) = ap₂ ◌∪◌ (in_fold p) (in_fold q)
    in_fold (hide p x y) = ap (λ z. z ∖ x) (in_fold p)
    in_fold (dec c ss) = ap (λ z. in_face_chart (E c) ∪ z) (in_folds ss)

    in_folds : (ss : Slaves) → in_faces E ss ≡ folds (λ c. in_face_chart (E c)) (λ x y. x) ss
    in_folds nil = refl
    in_folds (snoc ss i t) = ap₂ ◌∪◌ (in_folds ss) (in_fold t)

  mutual
    unfolding out_face fold

    pub out_fold : (t : Tree) → out_face E t ≡ fold (λ c. actions (E c).transitions) (λ x y. y) t
    out_fold (leaf c) = refl
    out_fold (comp p q x) = ap₂ ◌∪◌ (out_fold p) (out_fold q)
    out_fold (hide p x y) = ap (λ z. z ∖ y) (out_fold p)
    out_fold (dec c ss) = ap (λ z. actions (E c).transitions ∪ z) (out_folds ss)

    out_folds : (ss : Slaves) → out_faces E ss ≡ folds (λ c. actions (E c).transitions) (λ x y. y) ss
    out_folds nil = refl
    out_folds (snoc ss i t) = ap₂ ◌∪◌ (out_folds ss) (out_fold t)
