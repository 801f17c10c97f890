-- The chart that a file holds is laid down as any chart that the file means (`relaid`): the same nodes and the same
-- slaves, in the same order.
use Rattle.std.specs.Prelude.{◌≡◌, refl, List, [], ◌∷◌, ◌++◌, map, ℕ, ◌+◌, ◌<◌, length}
use Rattle.std.proofs.Common.{sym, ap, ap₂, ◌∙◌, subst}
use Rattle.std.proofs.Math.Path.{fun_ext}
use Rattle.std.proofs.Math.Option.{Option}
use mathlib.Core.List.Permᴰ
use Rattle.std.proofs.lemmas.List.{map-append}
use Rattle.layout.specs.declared.record.Node.{Node}
use Rattle.meaning.specs.Meaning.{Set, ∅, Tree, leaf, comp, hide, dec, nil, snoc}
use Rattle.meaning.specs.Meaning.{Slaves as Held}
use Rattle.meaning.specs.File.{File}
use Rattle.notation.specs.Syntax.{Signals, Sequential, sequential, decomposed, hidden, Chart, single, composed, Slaves}
use Rattle.reading.specs.Numbers.{named_states}
use Rattle.reading.specs.Names.{name_of}
use Rattle.reading.specs.Meant.{sorted_by, set_of, optional_of, Laid, last_of, Placed, lay_slaves, with_node, beside}
use Rattle.reading.specs.Meant.{chart_node, lay_hidden, lay_both, lay_single, lay_chart}
use Rattle.forms.specs.Laws.Slaves.{Pair}
use Rattle.outline.specs.Laws.Sorted.{Each, none, more, each_append}
use Rattle.spelling.specs.Typed.{sequential_of, typed_of, master_of, slaves_of}
use Rattle.spelling.proofs.Laws.Sets.{set-written}
use Rattle.faithful.specs.Faithful.{pairs_of, ByState, Means, a-chart, a_master, a-hiding, a_pair, MeansAll}
use Rattle.faithful.specs.Faithful.{no_slave, one_more}
use Rattle.faithful.specs.Laws.Parts.{placed_of, by_state, by_state_lem}
use Rattle.roundtrip.specs.Laws.Rising.{sorted_rising}
use Rattle.roundtrip.specs.Laws.Proper.{held_pairs, Proper, ProperAll, NotNone, InRange}
use Rattle.roundtrip.specs.Laws.Like.{pairs_held, held_rises}

-- ── parts by their numbers and sets ──

abbrev node_for : ℕ → Node
node_for c = record { kind = 0; a = c; b = 0; x = ∅; y = ∅ }

abbrev lay_hiding : Set → Laid → Set → ℕ → Laid
lay_hiding x p y k = with_node p (record { kind = 2; a = last_of k p; b = 0; x = x; y = y })

abbrev lay_pair : Laid → Set → (ℕ → Laid) → ℕ → Laid
lay_pair p x q k =
    let r = q (k + length p.nodes) in
    with_node (beside p r) (record { kind = 1; a = last_of k p; b = last_of (k + length p.nodes) r; x = x; y = ∅ })

abbrev placed_as : ℕ → (ℕ → Laid) → Placed
placed_as q f = record { at = q; part = f }

-- a chart by itself, and a master behind its slaves
abbrev lay_alone : ℕ → Laid
lay_alone c = record { nodes = node_for c ∷ []; slaves = [] }

abbrev lay_under : ℕ → List Placed → ℕ → Laid
lay_under c ls k = with_node (lay_slaves c ls k) (node_for c)

-- a master with its slaves, laid down by state
abbrev lay_master : Sequential → List Pair → ℕ → Laid
lay_master s l k = with_node (lay_slaves (name_of s) (map placed_of l) k) (chart_node s)

lay_master_lem : (s : Sequential) (ps : Slaves) (l : List Pair) (k : ℕ) → by_state ps ≡ l
    → lay_single (decomposed s ps) k ≡ lay_master s l k
unfolding lay_single
lay_master_lem s ps l k e =
    ap (λ ls. with_node (lay_slaves (name_of s) ls k) (chart_node s)) (by_state_lem ps ∙ ap (map placed_of) e)

-- ── which chart a tree means ──

module _ (F : File) where
  record MeansLeaf (c : ℕ) (t : Chart) : Type 0 where
    chart : Sequential
    is : t ≡ single (sequential chart)
    name : name_of chart ≡ c

  means_leaf : (c : ℕ) (t : Chart) → Means F (leaf c) t → MeansLeaf c t
  means_leaf c t (a-chart s) = record { chart = s; is = refl; name = refl }

  record MeansComp (p q : Tree) (x : Set) (t : Chart) : Type 0 where
    left : Chart
    typed : Signals
    right : Chart
    is : t ≡ composed left typed right
    set : set_of typed ≡ x
    means_left : Means F p left
    means_right : Means F q right

  means_comp : (p q : Tree) (x : Set) (t : Chart) → Means F (comp p q x) t → MeansComp p q x t
  means_comp p q x t (a_pair u y v p' q' m n) =
      record { left = u; typed = y; right = v; is = refl; set = refl; means_left = m; means_right = n }

  record MeansHide (p : Tree) (x y : Set) (t : Chart) : Type 0 where
    typed_in : Option Signals
    inner : Chart
    typed_out : Option Signals
    is : t ≡ single (hidden typed_in inner typed_out)
    set_in : optional_of typed_in ≡ x
    set_out : optional_of typed_out ≡ y
    means : Means F p inner

  means_hide : (p : Tree) (x y : Set) (t : Chart) → Means F (hide p x y) t → MeansHide p x y t
  means_hide p x y t (a-hiding a u b p' m) =
      record { typed_in = a; inner = u; typed_out = b; is = refl; set_in = refl; set_out = refl; means = m }

  record MeansDec (c : ℕ) (ss : Held) (t : Chart) : Type 0 where
    chart : Sequential
    slaves : Slaves
    pairs : List Pair
    is : t ≡ single (decomposed chart slaves)
    name : name_of chart ≡ c
    sorted : ByState slaves pairs
    means : MeansAll F c ss pairs

  means_dec : (c : ℕ) (ss : Held) (t : Chart) → Means F (dec c ss) t → MeansDec c ss t
  means_dec c ss t (a_master s ps l ss' b m) =
      record { chart = s; slaves = ps; pairs = l; is = refl; name = refl; sorted = b; means = m }

  means_nil : (c : ℕ) (l : List Pair) → MeansAll F c nil l → l ≡ []
  means_nil c l (no_slave c') = refl

  record MeansSnoc (c : ℕ) (ss : Held) (i : ℕ) (p : Tree) (l : List Pair) : Type 0 where
    rest : List Pair
    last : Pair
    is : l ≡ rest ++ (last ∷ [])
    means_rest : MeansAll F c ss rest
    state : F.state i ≡ last.state
    means : Means F p last.chart

  means_snoc : (c : ℕ) (ss : Held) (i : ℕ) (p : Tree) (l : List Pair) → MeansAll F c (snoc ss i p) l
      → MeansSnoc c ss i p l
  means_snoc c ss i p l (one_more c' us m j q r a d e b) =
      record { rest = m; last = r; is = refl; means_rest = a; state = e; means = b }

-- ── laid down ──

module _ (F : File) (states : (i : ℕ) → i < F.slaves → F.state i < named_states) where
  held_below : (c : ℕ) (ss : Held) → ProperAll F InRange c ss → Each (λ r. r.state < named_states) (held_pairs F ss)
  unfolding held_pairs
  held_below c nil h = none
  held_below c (snoc ss i t) h = each_append (held_below c ss h.0) (more (states i h.2) none)

  -- the slaves of a master in the tree, as typed: they are in their order already
  held-laid : (s : Sequential) (c : ℕ) (ss : Held) → NotNone ss → ProperAll F InRange c ss → (k : ℕ)
      → lay_single (master_of F s ss) k ≡ lay_master s (held_pairs F ss) k
  unfolding typed_of held_pairs
  held-laid s c nil n h k = absurd n
  held-laid s c (snoc ss i t) n h k =
      let p = pairs_held F ss (F.state i) (typed_of F t) in
      lay_master_lem s (slaves_of F ss (F.state i) (typed_of F t)) (held_pairs F (snoc ss i t)) k
      (ap (sorted_by (λ r. r.state) named_states) p
      ∙ sorted_rising (λ r. r.state) named_states (held_pairs F (snoc ss i t)) (held_pairs F (snoc ss i t))
      (Permᴰ.refl _)
      (held_rises F InRange c (snoc ss i t) h) (held_below c (snoc ss i t) h))

  means_below : (c : ℕ) (ss : Held) → ProperAll F InRange c ss → (l : List Pair) → MeansAll F c ss l
      → Each (λ r. r.state < named_states) l
  means_below c ss h l (no_slave c') = none
  means_below c ss h l (one_more c' us m i p r a d q b) =
      each_append (means_below c us h.0 m a) (more (subst (λ z. z < named_states) q (states i h.2)) none)

  mutual
    unfolding typed_of sequential_of lay_single lay_hidden lay_both optional_of held_pairs

    pub relaid : (T : Tree) → Proper F InRange T → (t : Chart) → Means F T t → (k : ℕ)
        → lay_chart (typed_of F T) k ≡ lay_chart t k
    relaid (leaf c) h t m k =
        let r = means_leaf F c t m in
        ap (λ d. lay_alone d) (sym r.name) ∙ ap (λ u. lay_chart u k) (sym r.is)
    relaid (comp p q x) h t m k =
        let r = means_comp F p q x t m in
        ap (λ X. lay_pair (lay_chart (typed_of F p) k) X (λ j. lay_chart (typed_of F q) j) k)
        (set-written x h.0 ∙ sym r.set)
        ∙ ap₂ (λ a b. lay_pair a (set_of r.typed) b k) (relaid p h.1 r.left r.means_left k)
        (fun_ext (λ j. relaid q h.2 r.right r.means_right j))
        ∙ ap (λ u. lay_chart u k) (sym r.is)
    relaid (hide p x y) h t m k =
        let r = means_hide F p x y t m in
        ap₂ (λ X Y. lay_hiding X (lay_chart (typed_of F p) k) Y k) (set-written x h.0 ∙ sym r.set_in)
        (set-written y h.1 ∙ sym r.set_out)
        ∙ ap (λ l. lay_hiding (optional_of r.typed_in) l (optional_of r.typed_out) k)
        (relaid p h.2 r.inner r.means k)
        ∙ ap (λ u. lay_chart u k) (sym r.is)
    relaid (dec c ss) h t m k =
        let r = means_dec F c ss t m in
        held-laid (sequential_of c (F.chart c)) c ss h.1 h.2 k
        ∙ ap (λ ls. lay_under c ls k) (relaid_all c ss h.2 r.pairs r.means)
        ∙ ap (λ d. lay_under d (map placed_of r.pairs) k) (sym r.name)
        ∙ sym (lay_master_lem r.chart r.slaves r.pairs k
        (sorted_rising (λ r. r.state) named_states r.pairs (pairs_of r.slaves) r.sorted.typed
        r.sorted.rises (means_below c ss h.2 r.pairs r.means)))
        ∙ ap (λ u. lay_chart u k) (sym r.is)

    relaid_all : (c : ℕ) (ss : Held) → ProperAll F InRange c ss → (l : List Pair) → MeansAll F c ss l
        → map placed_of (held_pairs F ss) ≡ map placed_of l
    relaid_all c nil h l m = ap (map placed_of) (sym (means_nil F c l m))
    relaid_all c (snoc ss i p) h l m =
        let r = means_snoc F c ss i p l m in
        map-append placed_of (held_pairs F ss) _
        ∙ ap₂ (λ ls e. ls ++ (e ∷ [])) (relaid_all c ss h.0 r.rest r.means_rest)
        (ap₂ placed_as r.state (fun_ext (λ k. relaid p h.4 r.last.chart r.means k)))
        ∙ sym (map-append placed_of r.rest (r.last ∷ []))
        ∙ ap (map placed_of) (sym r.is)
