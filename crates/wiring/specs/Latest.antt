-- The wiring made from node 0 up, in one table. After the first j nodes it has of each chart what the latest of them
-- with the chart in its tree says (latest). In order: the table after the first j nodes; one node more; the latest
-- node; by the kind of node j, what the table has of its charts before it is wired (latest-hide, latest-comp,
-- latest-whole); and that what node j makes of it is node j's (the laws that end in -made).
use Rattle.std.specs.Prelude.{◌≡◌, Bool, true, ◌&&◌, ◌||◌, [], ◌∷◌}
use Rattle.std.proofs.Math.Path.{refl, ap}
use Rattle.std.proofs.Common.{sym, ◌∙◌, arith}
use Rattle.std.proofs.Math.Bool.{false, cond}
use Rattle.std.proofs.lemmas.Bool.{false≢true}
use Prim.Native.Nat.{ℕ, zero, suc, ◌≤◌, ◌<◌}
use Rattle.signals.specs.Mask.{◌∪◌, ◌∩◌, ◌∖◌}
use Rattle.signals.specs.Decide.{sets, A, B, C, ∅ₑ, ◌∪ₑ◌, ◌≐◌}
use Rattle.meaning.specs.Meaning.{Set, ∅, same, Tree, Slaves, comp, nil, snoc}
use Rattle.meaning.specs.File.{File, Has, HasS, whole, gather, tree_of}
use Rattle.meaning.specs.Laws.Bools.{and_second, or_elim, same→≡, same→≢}
use Rattle.meaning.specs.Laws.Trees.{Ordered, tree₀, tree₁, tree₂}
use Rattle.wiring.specs.Reach.{own, full, own_on, own_off, down, downs, up, ups, back, backs, Held, Helds}
use Rattle.wiring.specs.Reach.{down_off, downs_off, up_off, ups_off, back_off, backs_off}
use Rattle.wiring.specs.Stand.{Alone, Parted}
use Rattle.wiring.specs.ByKind.{some_of, down₀, down₁, down₂, up₀, up₁, up₂, back₀, back₁, back₂}

module _ (F : File) where
  -- f of the latest of the first j nodes' trees that has chart c; nothing where none has it
  unfoldable pub latest : ℕ → (Tree → Set) → ℕ → Set
  latest c f zero = ∅
  latest c f (suc j) = cond (Has (tree_of F j) c) (f (tree_of F j)) (latest c f j)

  -- ── the table after the first j nodes ──

  -- what of a set offered to its part gets down to chart c
  abbrev pub down_to : ℕ → ℕ → Set
  down_to j c = latest c (λ t. down t c) j

  -- what of its action gets up to the part's output
  abbrev pub up_to : ℕ → ℕ → Set
  up_to j c = latest c (λ t. up t c) j

  -- what of chart e's action gets to it by feedback in the part
  abbrev pub back_to : ℕ → ℕ → ℕ → Set
  back_to j c e = latest c (λ t. back F.chart t c e) j

  -- ── one node more ──

  pub latest_in : (c : ℕ) (f : Tree → Set) (j : ℕ) → Has (tree_of F j) c ≡ true → latest c f (suc j) ≡ f (tree_of F j)
  unfolding latest
  latest_in c f j h = ap (λ b. cond b (f (tree_of F j)) (latest c f j)) h

  pub latest_out : (c : ℕ) (f : Tree → Set) (j : ℕ) → Has (tree_of F j) c ≡ false → latest c f (suc j) ≡ latest c f j
  unfolding latest
  latest_out c f j h = ap (λ b. cond b (f (tree_of F j)) (latest c f j)) h

  -- ── the latest node ──

  latest-none : (c : ℕ) (f : Tree → Set) (j : ℕ) → ((i : ℕ) → i < j → Has (tree_of F i) c ≡ false) → latest c f j ≡ ∅
  unfolding latest
  latest-none c f zero h = refl
  latest-none c f (suc j) h = latest_out c f j (h j (omega arith)) ∙ latest-none c f j (λ i l. h i (omega arith))

  latest-at : (c : ℕ) (f : Tree → Set) (i j : ℕ) → i < j → Alone F i j → Has (tree_of F i) c ≡ true
      → latest c f j ≡ f (tree_of F i)
  latest-at c f i zero l a h = absurd (omega arith)
  latest-at c f i (suc j) l a h = go (same i j) refl (λ m. latest-at c f i j m (λ k d p q. a k d p (omega arith)) h)
    where
      go : (b : Bool) → same i j ≡ b → (i < j → latest c f j ≡ f (tree_of F i)) → latest c f (suc j) ≡ f (tree_of F i)
      go true e r = let z : i ≡ j = same→≡ i j e in latest_in c f j (rw (sym z) h) ∙ ap (λ k. f (tree_of F k)) (sym z)
      go false e r = let z = same→≢ i j e in latest_out c f j (a j c (omega arith) (omega arith) h) ∙ r (omega arith)

-- ── what stands there of the charts of node j, by its kind ──

behind : (s x : Set) → x ≡ ∅ → s ≡ s ∪ x
behind s x h = sets (s ∷ x ∷ []) (B ≐ ∅ₑ ∷ []) (A ≐ A ∪ₑ B) tt h

before : (x s : Set) → x ≡ ∅ → s ≡ x ∪ s
before x s h = sets (x ∷ s ∷ []) (A ≐ ∅ₑ ∷ []) (B ≐ A ∪ₑ B) tt h

-- a chart with its slaves
helds_whole : (N d : ℕ) (ss : Slaves) → Held N (whole d ss) → Helds N ss
helds_whole N d nil h = tt
helds_whole N d (snoc ss i t) h = h.1

held-own : (N d : ℕ) (ss : Slaves) → Held N (whole d ss) → HasS ss d ≡ false
unfolding Has
held-own N d nil h = refl
held-own N d (snoc ss i t) h = h.2

whole-other : (d : ℕ) (ss : Slaves) (c : ℕ) → Has (whole d ss) c ≡ true → HasS ss c ≡ false → c ≡ d
unfolding Has
whole-other d nil c h q = same→≡ c d h
whole-other d (snoc ss i t) c h q =
    or_elim (same c d) (HasS (snoc ss i t) c) (c ≡ d) (λ e. same→≡ c d e) (λ e. absurd (false≢true (sym q ∙ e))) h

module _ (F : File) (w : Ordered F) (p : Parted F) (j : ℕ) (l : j < F.nodes) (c : ℕ)
    (h : Has (tree_of F j) c ≡ true) where
  abbrev a : ℕ
  a = F.a j

  abbrev b : ℕ
  b = F.b j

  abbrev slaves : Slaves
  slaves = some_of F w a F.slaves

  -- f of a tree without the chart is empty
  module _ (f : Tree → Set) (off : (t : Tree) → Has t c ≡ false → f t ≡ ∅) where
    latest_hide : F.kind j ≡ 2 → latest F c f j ≡ f (tree_of F a)
    unfolding Has
    latest_hide e = latest-at F c f a j (w.lower₂ j l e) (p.inner j l e) (rw (tree₂ F w j l e) at h)

    latest_comp : F.kind j ≡ 1 → latest F c f j ≡ f (tree_of F a) ∪ f (tree_of F b)
    unfolding Has
    latest_comp e = go (Has (tree_of F a) c) refl (rw (tree₁ F w j l e) at h)
      where
        parts : (Has (tree_of F a) c && Has (tree_of F b) c) ≡ false
        parts = let v : Held F.charts (comp (tree_of F a) (tree_of F b) (F.x j)) =
            rw (tree₁ F w j l e) at (p.held j l) in v.2 c

        go : (x : Bool) → Has (tree_of F a) c ≡ x → (x || Has (tree_of F b) c) ≡ true
            → latest F c f j ≡ f (tree_of F a) ∪ f (tree_of F b)
        go true e₁ g = latest-at F c f a j (w.lower₁ j l e).0 (p.left j l e) e₁
            ∙ behind _ _ (off (tree_of F b) (and_second _ _ parts e₁))
        go false e₁ g = latest-at F c f b j (w.lower₁ j l e).1 (p.right j l e) g ∙ before _ _ (off (tree_of F a) e₁)

    -- fs of slaves joins f of each
    module _ (fs : Slaves → Set) (more : (ss : Slaves) (i : ℕ) (t : Tree) → fs (snoc ss i t) ≡ fs ss ∪ f t)
        (offs : (ss : Slaves) → HasS ss c ≡ false → fs ss ≡ ∅) where
      latest-slaves : F.kind j ≡ 0 → (k : ℕ) → k ≤ F.slaves → Helds F.charts (some_of F w a k)
          → HasS (some_of F w a k) c ≡ true
          → latest F c f j ≡ fs (some_of F w a k)
      unfolding gather Has
      latest-slaves e zero m g q = absurd (false≢true q)
      latest-slaves e (suc k) m g q = go (same (F.master k) a) refl (latest-slaves e k (omega arith)) g q
        where
          rest : Slaves
          rest = some_of F w a k

          t : Tree
          t = tree_of F (F.node k)

          go : (x : Bool) → same (F.master k) a ≡ x
              → (Helds F.charts rest → HasS rest c ≡ true → latest F c f j ≡ fs rest)
              → Helds F.charts (cond x (snoc rest k t) rest) → HasS (cond x (snoc rest k t) rest) c ≡ true
              → latest F c f j ≡ fs (cond x (snoc rest k t) rest)
          go false d r g q = r g q
          go true d r g q = in_it (Has t c) refl q ∙ sym (more rest k t)
            where
              mine : F.master k ≡ a
              mine = same→≡ (F.master k) a d

              in_it : (y : Bool) → Has t c ≡ y → (y || HasS rest c) ≡ true → latest F c f j ≡ fs rest ∪ f t
              in_it true u v =
                  latest-at F c f (F.node k) j (w.lower₀ j l e k (omega arith) mine)
                  (p.slave j l e k (omega arith) mine) u
                  ∙ before _ _ (offs rest (and_second (Has t c) (HasS rest c) (g.2 c) u))
              in_it false u v = r g.0 v ∙ behind _ _ (off t u)

      -- of the chart itself there is nothing yet: no lower node has it
      latest-whole : F.kind j ≡ 0 → latest F c f j ≡ fs slaves
      latest-whole e = go (HasS slaves c) refl
        where
          go : (x : Bool) → HasS slaves c ≡ x → latest F c f j ≡ fs slaves
          go true q = latest-slaves e F.slaves (omega arith)
              (helds_whole F.charts a slaves (rw (tree₀ F w j l e) at (p.held j l))) q
          go false q =
              let z : c ≡ a = whole-other a slaves c (rw (tree₀ F w j l e) at h) q in
              latest-none F c f j (λ i m. rw z (p.fresh j l e i m)) ∙ sym (offs slaves q)

  -- ── what node j makes of it ──

  -- a chart: it gets its own masks first; then feedback is fed
  module _ (e : F.kind j ≡ 0) where
    lower : HasS slaves a ≡ false
    lower = held-own F.charts a slaves (rw (tree₀ F w j l e) at (p.held j l))

    -- a row of the chart and its slaves
    own-made : (f : Tree → Set) (fs : Slaves → Set) → latest F c f j ≡ fs slaves
        → (HasS slaves c ≡ false → fs slaves ≡ ∅)
        → cond (same c a) full (latest F c f j) ≡ own a c ∪ fs slaves
    own-made f fs g offs = go (same c a) refl
      where
        go : (x : Bool) → same c a ≡ x → cond x full (latest F c f j) ≡ own a c ∪ fs slaves
        go true q = let z : c ≡ a = same→≡ c a q in
            sets (full ∷ own a c ∷ fs slaves ∷ []) (B ≐ A ∷ C ≐ ∅ₑ ∷ []) (A ≐ B ∪ₑ C) tt (ap (own a) z ∙ own_on a)
            (offs (rw z lower))
        go false q = g ∙ before _ _ (own_off a c q)

    down_is : latest F c (λ t. down t c) j ≡ downs slaves c
    unfolding down
    down_is = latest-whole (λ t. down t c) (λ t q. down_off t c q) (λ ss. downs ss c) (λ ss i t. refl)
        (λ ss q. downs_off ss c q) e

    up_is : latest F c (λ t. up t c) j ≡ ups slaves c
    unfolding up
    up_is =
        latest-whole (λ t. up t c) (λ t q. up_off t c q) (λ ss. ups ss c) (λ ss i t. refl) (λ ss q. ups_off ss c q) e

    back_is : (d : ℕ) → latest F c (λ t. back F.chart t c d) j ≡ backs F.chart slaves c d
    unfolding back
    back_is d = latest-whole (λ t. back F.chart t c d) (λ t q. back_off F.chart t c q d)
        (λ ss. backs F.chart ss c d) (λ ss i t. refl)
        (λ ss q. backs_off F.chart ss c q d) e

    pub down₀_made : cond (same c a) full (down_to F j c) ≡ down (tree_of F j) c
    down₀_made = own-made (λ t. down t c) (λ ss. downs ss c) down_is (downs_off slaves c) ∙ sym (down₀ F w j c l e)

    pub up₀_made : cond (same c a) full (up_to F j c) ≡ up (tree_of F j) c
    up₀_made = own-made (λ t. up t c) (λ ss. ups ss c) up_is (ups_off slaves c) ∙ sym (up₀ F w j c l e)

    pub back₀_made : (d : ℕ) → back_to F j c d ∪ down (tree_of F j) c ∩ up (tree_of F j) d ∩ (F.chart a).feedback
        ≡ back F.chart (tree_of F j) c d
    back₀_made d = ap (λ s. s ∪ down (tree_of F j) c ∩ up (tree_of F j) d ∩ (F.chart a).feedback) (back_is d)
        ∙ sym (back₀ F w j c d l e)

  -- a composition: the rows are joined as they stand; then feedback is fed
  module _ (e : F.kind j ≡ 1) where
    pub down₁_made : down_to F j c ≡ down (tree_of F j) c
    down₁_made = latest_comp (λ t. down t c) (λ t q. down_off t c q) e ∙ sym (down₁ F w j c l e)

    pub up₁_made : up_to F j c ≡ up (tree_of F j) c
    up₁_made = latest_comp (λ t. up t c) (λ t q. up_off t c q) e ∙ sym (up₁ F w j c l e)

    pub back₁_made : (d : ℕ)
        → back_to F j c d ∪ down (tree_of F j) c ∩ up (tree_of F j) d ∩ F.x j ≡ back F.chart (tree_of F j) c d
    back₁_made d =
        ap (λ s. s ∪ down (tree_of F j) c ∩ up (tree_of F j) d ∩ F.x j)
        (latest_comp (λ t. back F.chart t c d) (λ t q. back_off F.chart t c q d) e)
        ∙ sym (back₁ F w j c d l e)

  -- a hiding
  module _ (e : F.kind j ≡ 2) where
    pub down₂_made : down_to F j c ∖ F.x j ≡ down (tree_of F j) c
    down₂_made = ap (λ s. s ∖ F.x j) (latest_hide (λ t. down t c) (λ t q. down_off t c q) e) ∙ sym (down₂ F w j c l e)

    pub up₂_made : up_to F j c ∖ F.y j ≡ up (tree_of F j) c
    up₂_made = ap (λ s. s ∖ F.y j) (latest_hide (λ t. up t c) (λ t q. up_off t c q) e) ∙ sym (up₂ F w j c l e)

    pub back₂_made : (d : ℕ) → back_to F j c d ≡ back F.chart (tree_of F j) c d
    back₂_made d =
        latest_hide (λ t. back F.chart t c d) (λ t q. back_off F.chart t c q d) e ∙ sym (back₂ F w j c d l e)
