-- The tree of a file whose nodes and slaves are those of a chart means this chart: `chart_means`. A part of the chart
-- is where its nodes stand (`Here`), and has all slaves of its charts (`Sole`), since no chart is typed twice.
use Rattle.std.specs.Prelude.{◌≡◌, Bool, true, false, ◌||◌, cond, eqb}
use Rattle.std.proofs.Math.Path.{refl, sym, ap, subst}
use Rattle.std.proofs.Common.{◌∙◌, eq-eqb, ne_eqb, eqb-true, lit<}
use Rattle.std.proofs.Math.Option.{Option}
use mathlib.Core.List.{List, [], ◌∷◌, ◌++◌, map, append_assoc, append-nil}
use Prim.Native.Nat.{ℕ, suc, ◌+◌, ◌-◌, ◌^◌, ◌≤◌, ◌<◌}
use native.Mathlib.Omega.{arith}
use Rattle.std.proofs.lemmas.Bool.{eqb-false}
use Rattle.std.proofs.Math.ListN.{length, length-append}
use Rattle.layout.specs.declared.record.Slave.{Slave}
use Rattle.layout.specs.declared.record.Node.{Node}
use Rattle.meaning.specs.Sums.{one}
use Rattle.meaning.specs.Meaning.{∅, same, leaf, comp, hide, dec, snoc}
use Rattle.meaning.specs.Meaning.{Slaves as Held}
use Rattle.meaning.specs.File.{File, whole, gather, tree_of}
use Rattle.meaning.specs.Check.{slaves?}
use Rattle.meaning.specs.Laws.Trees.{Ordered, tree₀, tree₁, tree₂}
use Rattle.meaning.specs.Sums.Laws.{or_left, or_right}
use Rattle.agreement.specs.Encoded.{slave_in, node_in}
use Rattle.notation.specs.Syntax.{Signals, Sequential, Single, sequential, decomposed, hidden, Chart, single}
use Rattle.notation.specs.Syntax.{composed, Slaves, first_slave, more_slaves}
use Rattle.reading.specs.Numbers.{named_charts, named_states}
use Rattle.reading.specs.Names.{set?, optional?, sequential?, name_of, sequentials_in, sequentials_of}
use Rattle.reading.specs.Names.{sequentials_of_slaves}
use Rattle.reading.specs.Meant.{with_key, sorted_by, set_of, optional_of, Laid, last_of, lay_slaves, with_node, beside}
use Rattle.reading.specs.Meant.{chart_node, lay_hidden, lay_both, lay_single, lay_chart}
use Rattle.lists.specs.Laws.States.{length_snoc}
use Rattle.forms.specs.Laws.Slaves.{Pair}
use Rattle.outline.specs.Tree.{lacking, refused_single?, refused?, refused_slaves?}
use Rattle.outline.specs.Laws.Sorted.{Each, none, more, each_append, each_sorted, total, total-append, length_sorted}
use Rattle.outline.specs.Laws.Laid.{has-below}
use Rattle.walk.specs.Laws.Order.{key_append}
use Rattle.faithful.specs.Faithful.{pairs_of, Rising, ByState, Means, a-chart, a_master, a-hiding, a_pair}
use Rattle.faithful.specs.Faithful.{MeansAll, no_slave, one_more}
use Rattle.faithful.specs.Laws.Small.{set-small, optional_small}
use Rattle.faithful.specs.Laws.Back.{At, at-below}
use Rattle.faithful.specs.Laws.Order.{with-not, with-own, with_sorted, NotFalling, sorted_level}
use Rattle.faithful.specs.Laws.Order.{sorted_fixed}
use Rattle.faithful.specs.Laws.Parts.{placed_of, by_state, typed_pairs, by_state_lem, states-below, times_in, times_of}
use Rattle.faithful.specs.Laws.Parts.{times_all, state_times}
use Rattle.faithful.specs.Laws.Parts.{named_so, chart_of, state_of, slave_for, behind, chart-none}
use Rattle.faithful.specs.Laws.Parts.{lay_none, all_none, own, own_is, own_each, own-level, pairs_rise}
use Rattle.faithful.specs.Laws.Rising.{slaves_rise}

-- the slaves of a chart in the order of its file
abbrev pub filed : List Slave → List Slave
filed l = sorted_by chart_of named_charts (sorted_by state_of named_states l)

-- the nodes of a file are l, and its slaves are those of s
pub record Reads (F : File) (l : List Node) (s : List Slave) : Type 0 where
  pub nodes : F.nodes ≡ length l
  pub node : (j : ℕ) (r : Node) → At l j r → r.x < 256 ^ 8 → r.y < 256 ^ 8 → node_in F j ≡ r
  pub slaves : F.slaves ≡ length (filed s)
  pub slave : (i : ℕ) (r : Slave) → At (filed s) i r → slave_in F i ≡ r
  pub ordered : Ordered F
  pub few : (j : ℕ) → j < F.nodes → F.kind j ≡ 0 → F.a j < named_charts
  pub rise : slaves? F ≡ false

-- slaves of the tree that mean none, and that mean some
none-held : (F : File) (c : ℕ) (ss : Held) (l : List Pair) → MeansAll F c ss l → length l ≡ 0 → whole c ss ≡ leaf c
none-held F c ss l (no_slave c') e = refl
none-held F c ss l (one_more c' ss' m i p r a d q b) e = absurd (let z = length_snoc m r in omega arith)

some_held : (F : File) (c : ℕ) (ss : Held) (l : List Pair) → MeansAll F c ss l → 0 < length l → whole c ss ≡ dec c ss
some_held F c ss l (no_slave c') e = absurd (omega arith)
some_held F c ss l (one_more c' ss' m i p r a d q b) e = refl

module _ (F : File) (N : List Node) (S : List Slave) (reads : Reads F N S) where
  -- ── the slaves of a master, gathered ──

  -- records of slaves, and slaves as typed
  unfoldable Matches : List Slave → List Pair → Type 0
  Matches [] [] = Unit {0}
  Matches [] (p ∷ l) = ⊥
  Matches (r ∷ rs) [] = ⊥
  Matches (r ∷ rs) (p ∷ l) = (r.state ≡ p.state) × Means F (tree_of F r.node) p.chart × Matches rs l

  module _ (c : ℕ) where
    -- the slaves of the first i records
    abbrev held : ℕ → Held
    held i = gather F.master (λ i. tree_of F (F.node i)) c i

    held_more : (i : ℕ) (r : Slave) → slave_in F i ≡ r → r.chart ≡ c
        → held (suc i) ≡ snoc (held i) i (tree_of F (F.node i))
    unfolding gather same
    held_more i r e q = rw (eq-eqb (F.master i) c (ap (λ r. r.chart) e ∙ q))

    held-other : (i : ℕ) (r : Slave) → slave_in F i ≡ r → (r.chart ≡ c → ⊥) → held (suc i) ≡ held i
    unfolding gather same
    held-other i r e q = rw (ne_eqb (F.master i) c (λ z. q (sym (ap (λ r. r.chart) e) ∙ z)))

    gathered : (done rest : List Slave) (l m : List Pair) → filed S ≡ done ++ rest → MeansAll F c (held (length done)) l
        → Matches (with_key chart_of c rest) m → MeansAll F c (held F.slaves) (l ++ m)
    unfolding with_key Matches
    gathered done [] l [] e h g =
        subst (λ i. MeansAll F c (held i) (l ++ [])) (ap length (sym (append-nil done) ∙ sym e) ∙ sym reads.slaves)
        (subst (MeansAll F c (held (length done))) (sym (append-nil l)) h)
    gathered done [] l (p ∷ m) e h g = absurd g
    gathered done (r ∷ rest) l m e h g =
        go (eqb r.chart c) refl m g
        (λ l m h g. gathered (done ++ (r ∷ [])) rest l m (e ∙ sym (append_assoc done (r ∷ []) rest))
        (subst (λ i. MeansAll F c (held i) l) (sym (length_snoc done r)) h) g)
      where
        i : ℕ
        i = length done

        is : slave_in F i ≡ r
        is = reads.slave i r (record { before = done; after = rest; is = e; counted = refl })

        go : (b : Bool) → eqb r.chart c ≡ b → (m : List Pair)
            → Matches (cond b (r ∷ with_key chart_of c rest) (with_key chart_of c rest)) m
            → ((l m : List Pair) → MeansAll F c (held (suc i)) l → Matches (with_key chart_of c rest) m
            → MeansAll F c (held F.slaves) (l ++ m))
            → MeansAll F c (held F.slaves) (l ++ m)
        go true q [] g next = absurd g
        go true q (p ∷ m) g next =
            let z = eqb-true r.chart c q in
            subst (MeansAll F c (held F.slaves)) (append_assoc l (p ∷ []) m)
            (next (l ++ (p ∷ [])) m
            (subst (λ ss. MeansAll F c ss (l ++ (p ∷ []))) (sym (held_more i r is z))
            (one_more c (held i) l i (tree_of F (F.node i)) p h (ap (λ r. r.chart) is ∙ z)
            (ap (λ r. r.state) is ∙ g.0)
            (subst (λ j. Means F (tree_of F j) p.chart) (sym (ap (λ r. r.node) is)) g.1)))
            g.2)
        go false q m g next =
            next l m (subst (λ ss. MeansAll F c ss l) (sym (held-other i r is (eqb-false r.chart c q))) h) g

  -- the slaves of a chart among the records are those that were laid down, if they rise by their states
  filed-own : (c : ℕ) (rs : List Slave) → c < named_charts → with_key chart_of c S ≡ rs → NotFalling state_of rs
      → Each (λ r. r.state < named_states) rs → with_key chart_of c (filed S) ≡ rs
  filed-own c rs h e r b =
      with-own chart_of named_charts c (sorted_by state_of named_states S) h
      ∙ with_sorted chart_of state_of c named_states S ∙ ap (sorted_by state_of named_states) e
      ∙ sorted_fixed state_of named_states rs r b

  records_rise : (c : ℕ) → Rising state_of (with_key chart_of c (filed S))
  records_rise c = slaves_rise F (filed S) reads.slaves reads.slave reads.rise c

  -- ── the tree of a node ──

  node_below : (j : ℕ) (r : Node) → At N j r → j < F.nodes
  node_below j r m = let l = at-below N j r m in let e = reads.nodes in omega arith

  -- one that holds a chart
  record Holds (j c : ℕ) (rs : List Slave) (l : List Pair) : Type 0 where
    ss : Held
    mine : with_key chart_of c (filed S) ≡ rs
    tree : tree_of F j ≡ whole c ss
    means : MeansAll F c ss l

  holds : (j : ℕ) (s : Sequential) (rs : List Slave) (l : List Pair) → At N j (chart_node s)
      → with_key chart_of (name_of s) S ≡ rs → NotFalling state_of rs → Each (λ r. r.state < named_states) rs
      → Matches rs l
      → Holds j (name_of s) rs l
  unfolding gather
  holds j s rs l m e r b g =
      record {
        ss = held (name_of s) F.slaves;
        mine = mine;
        tree =
            tree₀ F reads.ordered j below kind
            ∙ ap (λ c. whole c (gather F.master (λ i. tree_of F (F.node i)) c F.slaves)) chart;
        means =
            gathered (name_of s) [] (filed S) [] l refl (no_slave (name_of s))
            (subst (λ x. Matches x l) (sym mine) g);
      }
    where
      is : node_in F j ≡ chart_node s
      is = reads.node j (chart_node s) m (lit< tt) (lit< tt)

      below : j < F.nodes
      below = node_below j (chart_node s) m

      kind : F.kind j ≡ 0
      kind = ap (λ r. r.kind) is

      chart : F.a j ≡ name_of s
      chart = ap (λ r. r.a) is

      mine : with_key chart_of (name_of s) (filed S) ≡ rs
      mine = filed-own (name_of s) rs (subst (λ c. c < named_charts) chart (reads.few j below kind)) e r b

  -- one that hides, and one that composes
  hides : (j a : ℕ) (x : Option Signals) (t : Chart) (y : Option Signals) → optional? x ≡ false → optional? y ≡ false
      → At N j (record { kind = 2; a = a; b = 0; x = optional_of x; y = optional_of y }) → Means F (tree_of F a) t
      → Means F (tree_of F j) (single (hidden x t y))
  hides j a x t y f g m h =
      let r : Node = record { kind = 2; a = a; b = 0; x = optional_of x; y = optional_of y } in
      let is = reads.node j r m (optional_small x f) (optional_small y g) in
      subst (λ p. Means F p (single (hidden x t y)))
      (sym (tree₂ F reads.ordered j (node_below j r m) (ap (λ r. r.kind) is)
      ∙ ap (λ r. hide (tree_of F r.a) r.x r.y) is))
      (a-hiding x t y (tree_of F a) h)

  joins : (j a b : ℕ) (t : Chart) (x : Signals) (u : Chart) → set? x ≡ false
      → At N j (record { kind = 1; a = a; b = b; x = set_of x; y = ∅ }) → Means F (tree_of F a) t
      → Means F (tree_of F b) u
      → Means F (tree_of F j) (composed t x u)
  joins j a b t x u f m h g =
      let r : Node = record { kind = 1; a = a; b = b; x = set_of x; y = ∅ } in
      let is = reads.node j r m (set-small x f) (lit< tt) in
      subst (λ p. Means F p (composed t x u))
      (sym (tree₁ F reads.ordered j (node_below j r m) (ap (λ r. r.kind) is)
      ∙ ap (λ r. comp (tree_of F r.a) (tree_of F r.b) r.x) is))
      (a_pair t x u (tree_of F a) (tree_of F b) h g)

  -- ── where a part stands ──

  -- nodes of the file from k on
  pub record Here (k : ℕ) (l : List Node) : Type 0 where
    pub before : List Node
    pub after : List Node
    pub is : N ≡ before ++ (l ++ after)
    pub counted : length before ≡ k

  here_first : (k : ℕ) (l m : List Node) → Here k (l ++ m) → Here k l
  here_first k l m h =
      record {
        before = h.before;
        after = m ++ h.after;
        is = h.is ∙ ap (h.before ++◌) (append_assoc l m h.after);
        counted = h.counted;
      }

  here_then : (k : ℕ) (l m : List Node) → Here k (l ++ m) → Here (k + length l) m
  here_then k l m h =
      record {
        before = h.before ++ l;
        after = h.after;
        is =
            h.is ∙ ap (h.before ++◌) (append_assoc l m h.after)
            ∙ sym (append_assoc h.before l (m ++ h.after));
        counted = length-append h.before l ∙ ap (◌+ length l) h.counted;
      }

  here_node : (k : ℕ) (r : Node) → Here k (r ∷ []) → At N k r
  here_node k r h = record { before = h.before; after = h.after; is = h.is; counted = h.counted }

  -- the node behind the nodes of a part
  here_last : (k : ℕ) (p : Laid) (r : Node) → Here k (with_node p r).nodes → At N (last_of k (with_node p r)) r
  unfolding with_node
  here_last k p r h =
      subst (λ j. At N j r) (let z = length-append p.nodes (r ∷ []) in omega arith)
      (here_node (k + length p.nodes) r (here_then k p.nodes (r ∷ []) h))

  -- ── whose slaves a part has ──

  -- f counts how often a chart is typed in a part with the slaves l: no chart twice, and all slaves of those that are
  abbrev Once : (ℕ → ℕ) → Type 0
  Once f = (c : ℕ) → f c ≤ 1

  abbrev Sole : (ℕ → ℕ) → List Slave → Type 0
  Sole f l = (c : ℕ) → 0 < f c → with_key chart_of c S ≡ with_key chart_of c l

  sole_first : (c : ℕ) (l m : List Slave) → with_key chart_of c S ≡ with_key chart_of c (l ++ m)
      → with_key chart_of c m ≡ []
      → with_key chart_of c S ≡ with_key chart_of c l
  sole_first c l m e f =
      e ∙ key_append chart_of c l m ∙ ap (with_key chart_of c l ++◌) f ∙ append-nil (with_key chart_of c l)

  sole_then : (c : ℕ) (l m : List Slave) → with_key chart_of c S ≡ with_key chart_of c (l ++ m)
      → with_key chart_of c l ≡ []
      → with_key chart_of c S ≡ with_key chart_of c m
  sole_then c l m e f = e ∙ key_append chart_of c l m ∙ ap (◌++ with_key chart_of c m) f

  -- ── a part means what was typed ──

  abbrev Right : Chart → Type 0
  Right t =
      (k : ℕ) → Once (λ c. times_of c t) → Here k (lay_chart t k).nodes
      → Sole (λ c. times_of c t) (lay_chart t k).slaves
      → Means F (tree_of F (last_of k (lay_chart t k))) t

  -- the slaves of the master m, one after another
  along : (m : ℕ) (l : List Pair) → Each (λ p. Right p.chart) l → (k : ℕ) → Once (λ c. times_all c l)
      → times_all m l ≡ 0 → Here k (lay_slaves m (map placed_of l) k).nodes
      → Sole (λ c. times_all c l) (lay_slaves m (map placed_of l) k).slaves → Matches (own m l k) l
  unfolding own Matches lay_slaves total with_key
  along m [] e k o z h s = tt
  along m (p ∷ l) (more r e) k o z h s = (
    refl,
    r k (λ c. let q = o c in omega arith) (here_first k a.nodes b.nodes h)
        (λ c i. sole_first c a.slaves (slave_for m p k ∷ b.slaves) (s c (omega arith))
        (with-not chart_of c (slave_for m p k) b.slaves (other c (omega arith))
        ∙ lay_none c m (other c (omega arith)) l (all_none c l (let q = o c in omega arith)) (behind p k))),
    along m l e (behind p k) (λ c. let q = o c in omega arith) (omega arith) (here_then k a.nodes b.nodes h)
        (λ c i. sole_then c a.slaves b.slaves
        (s c (omega arith) ∙ key_append chart_of c a.slaves (slave_for m p k ∷ b.slaves)
        ∙ ap (with_key chart_of c a.slaves ++◌)
        (with-not chart_of c (slave_for m p k) b.slaves (other c (omega arith)))
        ∙ sym (key_append chart_of c a.slaves b.slaves))
        (chart-none c p.chart (let q = o c in omega arith) k)),
  )
    where
      a : Laid
      a = lay_chart p.chart k

      b : Laid
      b = lay_slaves m (map placed_of l) (behind p k)

      -- a chart of a slave is not the master
      other : (c : ℕ) → 0 < times_of c p.chart + times_all c l → m ≡ c → ⊥
      other c i q = let w = subst (λ c. times_of c p.chart + times_all c l ≡ 0) q z in omega arith

  -- ── each form ──

  chart_case : (j : ℕ) (s : Sequential) → At N j (chart_node s) → with_key chart_of (name_of s) S ≡ []
      → Means F (tree_of F j) (single (sequential s))
  unfolding Matches NotFalling
  chart_case j s m e =
      let g = holds j s [] [] m e tt none tt in
      subst (λ p. Means F p (single (sequential s)))
      (sym (g.tree ∙ none-held F (name_of s) g.ss [] g.means refl)) (a-chart s)

  pairs_some : (ps : Slaves) → 0 < length (pairs_of ps)
  unfolding pairs_of
  pairs_some (first_slave q t) = omega arith
  pairs_some (more_slaves ps q t) = let z = length_snoc (pairs_of ps) (record { state = q; chart = t }) in omega arith

  master_case : (s : Sequential) (ps : Slaves) (k : ℕ) → sequential? s ≡ false → refused_slaves? (lacking s) ps ≡ false
      → Each (λ p. Right p.chart) (pairs_of ps)
      → Once (λ c. one (eqb (name_of s) c) + times_in c (sequentials_of_slaves ps))
      → Here k (with_node (lay_slaves (name_of s) (map placed_of (by_state ps)) k) (chart_node s)).nodes
      → Sole (λ c. one (eqb (name_of s) c) + times_in c (sequentials_of_slaves ps))
      (with_node (lay_slaves (name_of s) (map placed_of (by_state ps)) k) (chart_node s)).slaves
      → Means F (tree_of F (last_of k (with_node (lay_slaves (name_of s) (map placed_of (by_state ps)) k)
      (chart_node s))))
      (single (decomposed s ps))
  unfolding with_node
  master_case s ps k e f r o h z =
      subst (λ p. Means F p (single (decomposed s ps)))
      (sym (g.tree ∙ some_held F m g.ss l g.means (omega (
        arith,
        pairs_some ps,
        length_sorted (λ p. p.state) named_states (pairs_of ps) below,
      ))))
      (a_master s ps l g.ss by g.means)
    where
      m : ℕ
      m = name_of s

      l : List Pair
      l = by_state ps

      below : Each (λ p. p.state < named_states) (pairs_of ps)
      below = states-below (lacking s) (has-below s e) ps f

      times : (c : ℕ) → times_all c l ≡ times_in c (sequentials_of_slaves ps)
      times c = state_times c ps below

      never : times_all m l ≡ 0
      never = let q = o m in let n = named_so m in omega (arith, times m)

      found : Matches (own m l k) l
      found =
          along m l (each_sorted (λ p. p.state) named_states (pairs_of ps) r) k
          (λ c. let q = o c in omega (arith, times c)) never
          (here_first k (lay_slaves m (map placed_of l) k).nodes (chart_node s ∷ []) h)
          (λ c i. z c (omega (arith, times c)))

      g : Holds (last_of k (with_node (lay_slaves m (map placed_of l) k) (chart_node s))) m (own m l k) l
      g =
          holds _ s (own m l k) l (here_last k (lay_slaves m (map placed_of l) k) (chart_node s) h)
          (z m (let n = named_so m in omega arith) ∙ own_is m l (all_none m l never) k)
          (own-level m l k (sorted_level (λ p. p.state) named_states (pairs_of ps)))
          (own_each (λ q. q < named_states) m l k (each_sorted (λ p. p.state) named_states (pairs_of ps) below)) found

      by : ByState ps l
      by =
          record {
            typed = typed_pairs ps below;
            rises = pairs_rise m l k (subst (Rising state_of) g.mine (records_rise m));
          }

  pair_case : (a : Chart) (x : Signals) (b : Chart) → Right a → set? x ≡ false → Right b → Right (composed a x b)
  unfolding lay_both with_node beside lay_chart sequentials_of
  pair_case a x b f e g k o h s =
      joins (last_of k (lay_chart (composed a x b) k)) (last_of k p) (last_of j q) a x b e
      (here_last k (beside p q) n h)
      (f k (λ c. let w = o c in let y = times c in omega arith) (here_first k p.nodes q.nodes both)
      (λ c i. sole_first c p.slaves q.slaves (s c (let y = times c in omega arith))
      (chart-none c b (let w = o c in let y = times c in omega arith) j)))
      (g j (λ c. let w = o c in let y = times c in omega arith) (here_then k p.nodes q.nodes both)
      (λ c i. sole_then c p.slaves q.slaves (s c (let y = times c in omega arith))
      (chart-none c a (let w = o c in let y = times c in omega arith) k)))
    where
      p : Laid
      p = lay_chart a k

      j : ℕ
      j = k + length p.nodes

      q : Laid
      q = lay_chart b j

      n : Node
      n = record { kind = 1; a = last_of k p; b = last_of j q; x = set_of x; y = ∅ }

      both : Here k (p.nodes ++ q.nodes)
      both = here_first k (p.nodes ++ q.nodes) (n ∷ []) h

      times : (c : ℕ) → times_of c (composed a x b) ≡ times_of c a + times_of c b
      times c = total-append (λ s. one (eqb (name_of s) c)) (sequentials_of a) (sequentials_of b)

  hidden_case : (x : Option Signals) (t : Chart) (y : Option Signals) → optional? x ≡ false → Right t
      → optional? y ≡ false → Right (single (hidden x t y))
  unfolding lay_hidden with_node lay_chart sequentials_of
  hidden_case x t y e f g k o h s =
      hides (last_of k (lay_chart (single (hidden x t y)) k)) (last_of k p) x t y e g (here_last k p n h)
      (f k o (here_first k p.nodes (n ∷ []) h) s)
    where
      p : Laid
      p = lay_chart t k

      n : Node
      n = record { kind = 2; a = last_of k p; b = 0; x = optional_of x; y = optional_of y }

  -- ── all forms ──

  mutual
    unfolding lay_single sequentials_in refused_single? pairs_of total with_key

    single_means : (s : Single) → refused_single? s ≡ false → Right (single s)
    single_means (sequential s) e k o h z =
        subst (λ j. Means F (tree_of F j) (single (sequential s))) (let w : k ≡ k + 1 - 1 = omega arith in w)
        (chart_case k s (here_node k (chart_node s) h) (z (name_of s) (let n = named_so (name_of s) in omega arith)))
    single_means (decomposed s ps) e k o h z =
        let f = or_left (sequential? s) (refused_slaves? (lacking s) ps) e in
        let g = or_right (sequential? s) (refused_slaves? (lacking s) ps) e in
        subst (λ l.
        Here k (with_node (lay_slaves (name_of s) l k) (chart_node s)).nodes
        → Sole (λ c. one (eqb (name_of s) c) + times_in c (sequentials_of_slaves ps))
        (with_node (lay_slaves (name_of s) l k) (chart_node s)).slaves
        → Means F (tree_of F (last_of k (with_node (lay_slaves (name_of s) l k) (chart_node s))))
        (single (decomposed s ps)))
        (sym (by_state_lem ps)) (master_case s ps k f g (slaves_mean (lacking s) ps g) o) h z
    single_means (hidden x t y) e k o h z =
        let f = or_right (optional? x) (refused? t || optional? y) e in
        hidden_case x t y (or_left (optional? x) (refused? t || optional? y) e)
        (λ k o h z. chart_means t (or_left (refused? t) (optional? y) f) k o h z)
        (or_right (refused? t) (optional? y) f) k o h z

    pub chart_means : (t : Chart) → refused? t ≡ false → Right t
    chart_means (single s) e k o h z = single_means s e k o h z
    chart_means (composed a x b) e k o h z =
        let f = or_right (refused? a) (set? x || refused? b) e in
        pair_case a x b (λ k o h z. chart_means a (or_left (refused? a) (set? x || refused? b) e) k o h z)
        (or_left (set? x) (refused? b) f) (λ k o h z. chart_means b (or_right (set? x) (refused? b) f) k o h z) k o h z

    slaves_mean : (lacks : ℕ → Bool) (ps : Slaves) → refused_slaves? lacks ps ≡ false
        → Each (λ p. Right p.chart) (pairs_of ps)
    slaves_mean lacks (first_slave q t) e =
        more (λ k o h z. chart_means t (or_right (lacks q) (refused? t) e) k o h z) none
    slaves_mean lacks (more_slaves ps q t) e =
        let f = or_right (refused_slaves? lacks ps) (lacks q || refused? t) e in
        each_append (slaves_mean lacks ps (or_left (refused_slaves? lacks ps) (lacks q || refused? t) e))
        (more (λ k o h z. chart_means t (or_right (lacks q) (refused? t) f) k o h z) none)
