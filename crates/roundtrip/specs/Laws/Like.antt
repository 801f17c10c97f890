-- Two trees that are the same but for the numbers of slave records (`Like`); where the numbers agree they are one tree
-- (`like_same`). A tree that means the chart of another tree, as typed, is like it (`means_like`).
use Rattle.std.specs.Prelude.{◌≡◌, refl, length}
use Rattle.std.proofs.Common.{sym, ap, ap₂, ◌∙◌, arith, length-append}
use Rattle.std.proofs.Math.Path.{subst}
use Rattle.std.proofs.Math.Option.{Option}
use mathlib.Core.List.Permᴰ
use mathlib.Core.List.{List, [], ◌∷◌, ◌++◌, head-eq_of_cons-eq, tail-eq_of_cons-eq}
use Prim.Native.Nat.{ℕ, ◌+◌, ◌*◌, ◌<◌}
use Rattle.meaning.specs.Meaning.{Set, Tree, leaf, comp, hide, dec, nil, snoc}
use Rattle.meaning.specs.Meaning.{Slaves as Held}
use Rattle.meaning.specs.File.{File}
use Rattle.notation.specs.Syntax.{Signals, Sequential, sequential, decomposed, hidden, Chart, single, composed, Slaves}
use Rattle.reading.specs.Names.{name_of}
use Rattle.reading.specs.Meant.{set_of, optional_of}
use Rattle.forms.specs.Laws.Slaves.{Pair}
use Rattle.spelling.specs.Typed.{sequential_of, typed_of, slaves_of}
use Rattle.spelling.proofs.Laws.Sets.{set-written}
use Rattle.faithful.specs.Faithful.{pairs_of, Rising, ByState, Means, a-chart, a_master, a-hiding, a_pair, MeansAll}
use Rattle.faithful.specs.Faithful.{no_slave, one_more}
use Rattle.faithful.proofs.Laws.Charts.{mem_perm}
use Rattle.accepted.specs.Tree.{key_of}
use Rattle.roundtrip.specs.Laws.Rising.{rising_snoc, rising_unique}
use Rattle.roundtrip.specs.Laws.Proper.{held_pairs, NotNone, InRange, AnySet, Proper, ProperAll}

-- ── trees that are alike ──

-- P: which slave records stand in the same place
mutual
  pub data Like (P : ℕ → ℕ → Type 0) : Tree → Tree → Type 0 where
    chart : (c : ℕ) → Like P (leaf c) (leaf c)
    pair : {p p' q q' : Tree} (x : Set) → Like P p p' → Like P q q' → Like P (comp p q x) (comp p' q' x)
    hiding : {p p' : Tree} (x y : Set) → Like P p p' → Like P (hide p x y) (hide p' x y)
    master : {ss ss' : Held} (c : ℕ) → LikeAll P ss ss' → Like P (dec c ss) (dec c ss')

  pub data LikeAll (P : ℕ → ℕ → Type 0) : Held → Held → Type 0 where
    none : LikeAll P nil nil
    more : {ss ss' : Held} {p p' : Tree} (i j : ℕ) → LikeAll P ss ss' → P i j → Like P p p'
        → LikeAll P (snoc ss i p) (snoc ss' j p')

module _ (P : ℕ → ℕ → Type 0) (e : (i j : ℕ) → P i j → j ≡ i) where
  mutual
    pub like_same : {T U : Tree} → Like P T U → U ≡ T
    like_same (chart c) = refl
    like_same (pair x a b) = ap₂ (λ p q. comp p q x) (like_same a) (like_same b)
    like_same (hiding x y a) = ap (λ p. hide p x y) (like_same a)
    like_same (master c l) = ap (dec c) (likes_same l)

    likes_same : {ss ss' : Held} → LikeAll P ss ss' → ss' ≡ ss
    likes_same none = refl
    likes_same (more {p = p} i j l r a) =
        let u = likes_same l in let v = e i j r in let w = like_same a in rw (u, v, w)

-- ── what means a chart ──

module _ (G : File) where
  means_chart : (U : Tree) (s : Sequential) → Means G U (single (sequential s)) → U ≡ leaf (name_of s)
  means_chart U s (a-chart s') = refl

  record MeansPair (U : Tree) (t : Chart) (x : Signals) (u : Chart) : Type 0 where
    left : Tree
    right : Tree
    is : U ≡ comp left right (set_of x)
    means_left : Means G left t
    means_right : Means G right u

  means_pair : (U : Tree) (t : Chart) (x : Signals) (u : Chart) → Means G U (composed t x u) → MeansPair U t x u
  means_pair U t x u (a_pair t' x' u' p q m n) =
      record { left = p; right = q; is = refl; means_left = m; means_right = n }

  record MeansHiding (U : Tree) (x : Option Signals) (t : Chart) (y : Option Signals) : Type 0 where
    inner : Tree
    is : U ≡ hide inner (optional_of x) (optional_of y)
    means : Means G inner t

  means_hiding : (U : Tree) (x : Option Signals) (t : Chart) (y : Option Signals) → Means G U (single (hidden x t y))
      → MeansHiding U x t y
  means_hiding U x t y (a-hiding x' t' y' p m) = record { inner = p; is = refl; means = m }

  record MeansMaster (U : Tree) (s : Sequential) (ps : Slaves) : Type 0 where
    pairs : List Pair
    slaves : Held
    is : U ≡ dec (name_of s) slaves
    sorted : ByState ps pairs
    means : MeansAll G (name_of s) slaves pairs

  means_master : (U : Tree) (s : Sequential) (ps : Slaves) → Means G U (single (decomposed s ps)) → MeansMaster U s ps
  means_master U s ps (a_master s' ps' l ss b m) =
      record { pairs = l; slaves = ss; is = refl; sorted = b; means = m }

-- ── what means the chart of a tree ──

-- lists with one more member at the end
module _ {A : Type 0} where
  last-same : (l m : List A) (a b : A) → l ++ (a ∷ []) ≡ m ++ (b ∷ []) → (l ≡ m) × (a ≡ b)
  last-same [] [] a b e = (refl, head-eq_of_cons-eq e)
  last-same [] (y ∷ m) a b e = absurd (omega (arith, ap length e, length-append m (b ∷ [])))
  last-same (x ∷ l) [] a b e = absurd (omega (arith, ap length e, length-append l (a ∷ [])))
  last-same (x ∷ l) (y ∷ m) a b e =
      let r = last-same l m a b (tail-eq_of_cons-eq e) in (ap₂ ◌∷◌ (head-eq_of_cons-eq e) r.0, r.1)

-- the slaves of a master as typed
pub pairs_held : (F : File) (ss : Held) (q : ℕ) (u : Chart)
    → pairs_of (slaves_of F ss q u) ≡ held_pairs F ss ++ (record { state = q; chart = u } ∷ [])
unfolding typed_of pairs_of held_pairs
pairs_held F nil q u = refl
pairs_held F (snoc ss i t) q u =
    ap (◌++ (record { state = q; chart = u } ∷ [])) (pairs_held F ss (F.state i) (typed_of F t))

-- they come by rising state
pub held_rises : (F : File) (S : Set → Type 0) (c : ℕ) (ss : Held) → ProperAll F S c ss
    → Rising (λ r. r.state) (held_pairs F ss)
unfolding held_pairs Rising
held_rises F S c nil h = tt
held_rises F S c (snoc ss i t) h =
    rising_snoc (λ r. r.state) (held_pairs F ss) _ (held_rises F S c ss h.0) h.3

module _ (F G : File) where
  -- records of one master and one state
  pub record Twins (i j : ℕ) : Type 0 where
    pub first_below : i < F.slaves
    pub second_below : j < G.slaves
    pub same_key : key_of F i ≡ key_of G j

  abbrev Alike : Tree → Tree → Type 0
  Alike = Like Twins

  -- slaves that mean those of a master
  record MeansHeld (c : ℕ) (ss : Held) (U : Tree) : Type 0 where
    slaves : Held
    is : U ≡ dec c slaves
    means : MeansAll G c slaves (held_pairs F ss)

  held_alike : (c : ℕ) (ss : Held) → NotNone ss → ProperAll F InRange c ss → (U : Tree)
      → Means G U (typed_of F (dec c ss)) → MeansHeld c ss U
  unfolding typed_of sequential_of held_pairs
  held_alike c nil n h U m = absurd n
  held_alike c (snoc ss i t) n h U m =
      let r = means_master G U _ _ m in
      let key : Pair → ℕ = λ r. r.state in
      let p = pairs_held F ss (F.state i) (typed_of F t) in
      let e = rising_unique key r.pairs (pairs_of (slaves_of F ss (F.state i) (typed_of F t))) r.sorted.rises
      (subst (Rising key) (sym p) (held_rises F InRange c (snoc ss i t) h))
      (λ a w. mem_perm r.sorted.typed w) (λ a w. mem_perm (Permᴰ.symm r.sorted.typed) w) in
      record { slaves = r.slaves; is = r.is; means = subst (MeansAll G c r.slaves) (e ∙ p) r.means }

  mutual
    unfolding typed_of sequential_of optional_of held_pairs

    pub means_like : (T : Tree) → Proper F InRange T → (U : Tree) → Proper G AnySet U → Means G U (typed_of F T)
        → Alike T U
    means_like (leaf c) h U k m = subst (Alike (leaf c)) (sym (means_chart G U _ m)) (chart c)
    means_like (comp p q x) h U k m =
        let r = means_pair G U _ _ _ m in
        let e = r.is ∙ ap (comp r.left r.right) (set-written x h.0) in
        let k' = subst (Proper G AnySet) e k in
        subst (Alike (comp p q x)) (sym e)
        (pair x (means_like p h.1 r.left k'.1 r.means_left)
        (means_like q h.2 r.right k'.2 r.means_right))
    means_like (hide p x y) h U k m =
        let r = means_hiding G U _ _ _ m in
        let e = r.is ∙ ap₂ (hide r.inner) (set-written x h.0) (set-written y h.1) in
        let k' = subst (Proper G AnySet) e k in
        subst (Alike (hide p x y)) (sym e) (hiding x y (means_like p h.2 r.inner k'.2 r.means))
    means_like (dec c ss) h U k m =
        let r = held_alike c ss h.1 h.2 U m in
        subst (Alike (dec c ss)) (sym r.is)
        (master c (mean_alike c ss h.2 r.slaves (subst (Proper G AnySet) r.is k).2 (held_pairs F ss)
        r.means refl))

    mean_alike : (c : ℕ) (ss : Held) → ProperAll F InRange c ss → (ss' : Held) → ProperAll G AnySet c ss'
        → (l : List Pair) → MeansAll G c ss' l → l ≡ held_pairs F ss → LikeAll Twins ss ss'
    mean_alike c nil h ss' k l (no_slave c') e = none
    mean_alike c nil h ss' k l (one_more c' us m j p r a d q b) e =
        absurd (omega (arith, ap length e, length-append m (r ∷ [])))
    mean_alike c (snoc ss i t) h ss' k l (no_slave c') e =
        absurd (omega (
          arith,
          ap length e,
          length-append (held_pairs F ss) (record { state = F.state i; chart = typed_of F t } ∷ []),
        ))
    mean_alike c (snoc ss i t) h ss' k l (one_more c' us m j p r a d q b) e =
        let z = last-same m (held_pairs F ss) r (record { state = F.state i; chart = typed_of F t }) e in
        more i j (mean_alike c ss h.0 us k.0 m a z.0)
        (record {
          first_below = h.2;
          second_below = k.2;
          same_key = ap₂ (λ m n. m * 16 + n) (h.1 ∙ sym d) (sym (q ∙ ap (λ r. r.state) z.1));
        })
        (means_like t h.4 p k.4 (subst (λ u. Means G p u) (ap (λ r. r.chart) z.1) b))
