-- A chart to which 52 does not apply is laid down in as many nodes and slaves as are counted on the tree, wherever its
-- nodes stand: `laid`; there is at least one node (`nodes_some`).
use Rattle.std.specs.Prelude.{◌≡◌, refl, Bool, false, ◌||◌, List, [], ◌∷◌, ℕ, ◌+◌, ◌<◌, ltb, length}
use Rattle.std.proofs.Common.{sym, ap, ap₂, ◌∙◌, arith, ltb-true, length-append}
use Rattle.std.proofs.lemmas.Bool.{not-false}
use Rattle.layout.specs.declared.record.Node.{Node}
use Rattle.meaning.specs.Check.{not_below}
use Rattle.meaning.specs.Sums.Laws.{or_left, or_right}
use Rattle.notation.specs.Syntax.{Sequential, Single, sequential, decomposed, hidden, Chart, single, composed, Slaves}
use Rattle.notation.specs.Syntax.{first_slave, more_slaves}
use Rattle.reading.specs.Numbers.{named_states}
use Rattle.reading.specs.Names.{members_of, any, has, set?, optional?, not_all?, twice?, left_out?, sequential?}
use Rattle.reading.specs.Names.{name_of}
use Rattle.reading.specs.Meant.{sorted_by, Laid, Placed, lay_slaves, with_node, beside, lay_hidden, lay_both}
use Rattle.reading.specs.Meant.{lay_single, lay_chart, placed}
use Rattle.lists.specs.Laws.States.{any_at}
use Rattle.outline.specs.Tree.{lacking, refused_single?, refused?, refused_slaves?, nodes_in_single, nodes_in}
use Rattle.outline.specs.Tree.{nodes_in_slaves, slaves_in_single, slaves_in, slaves_in_slaves}
use Rattle.outline.specs.Laws.Forms.{states-fine}
use Rattle.outline.specs.Laws.Sorted.{Each, none, more, each_append, total, total-append, each_sorted}
use Rattle.outline.specs.Laws.Sorted.{total_sorted}

-- ── at least one node ──

single_nodes_some : (s : Single) → 0 < nodes_in_single s
unfolding nodes_in_single
single_nodes_some (sequential s) = omega arith
single_nodes_some (decomposed s ps) = omega arith
single_nodes_some (hidden x t y) = omega arith

pub nodes_some : (t : Chart) → 0 < nodes_in t
unfolding nodes_in
nodes_some (single s) = single_nodes_some s
nodes_some (composed a x b) = omega arith

-- ── slaves, one after another ──

abbrev nodes_at : Placed → ℕ
nodes_at p = length (p.part 0).nodes

-- with the slave itself
abbrev slaves_at : Placed → ℕ
slaves_at p = length (p.part 0).slaves + 1

-- a part has as many nodes and slaves wherever it stands
pub record Steady (p : Placed) : Type 0 where
  pub nodes : (k : ℕ) → length (p.part k).nodes ≡ nodes_at p
  pub slaves : (k : ℕ) → length (p.part k).slaves + 1 ≡ slaves_at p

-- r has so many nodes and slaves
pub record Counts (r : Laid) (n m : ℕ) : Type 0 where
  pub nodes : length r.nodes ≡ n
  pub slaves : length r.slaves ≡ m

node_more : (r : Laid) (x : Node) (n m : ℕ) → Counts r n m → Counts (with_node r x) (n + 1) m
unfolding with_node
node_more r x n m c =
    record { nodes = length-append r.nodes (x ∷ []) ∙ ap (◌+ 1) c.nodes; slaves = c.slaves }

both-count : (p q : Laid) (n m i j : ℕ) → Counts p n m → Counts q i j → Counts (beside p q) (n + i) (m + j)
unfolding beside
both-count p q n m i j c d =
    record {
      nodes = length-append p.nodes q.nodes ∙ ap₂ ◌+◌ c.nodes d.nodes;
      slaves = length-append p.slaves q.slaves ∙ ap₂ ◌+◌ c.slaves d.slaves;
    }

slaves-count : (c : ℕ) (l : List Placed) → Each Steady l → (k : ℕ)
    → Counts (lay_slaves c l k) (total nodes_at l) (total slaves_at l)
unfolding lay_slaves total
slaves-count c [] e k = record { nodes = refl; slaves = refl }
slaves-count c (s ∷ l) (more p e) k =
    let q = slaves-count c l e (k + length (s.part k).nodes) in
    record {
      nodes = length-append (s.part k).nodes _ ∙ omega (arith, p.nodes k, q.nodes);
      slaves = length-append (s.part k).slaves _ ∙ omega (arith, p.slaves k, q.slaves);
    }

-- the slaves of a master as typed: steady, of states that have a name, and as many as are counted
pub record Ready (ps : Slaves) : Type 0 where
  pub steady : Each Steady (placed ps)
  pub below : Each (λ p. p.at < named_states) (placed ps)
  pub nodes : total nodes_at (placed ps) ≡ nodes_in_slaves ps
  pub slaves : total slaves_at (placed ps) ≡ slaves_in_slaves ps

-- so are they in the order of the file
in_order : (s : Sequential) (ps : Slaves) → Ready ps → (k : ℕ)
    → Counts (lay_slaves (name_of s) (sorted_by (λ p. p.at) named_states (placed ps)) k) (nodes_in_slaves ps)
    (slaves_in_slaves ps)
in_order s ps r k =
    let l = placed ps in
    let c = slaves-count (name_of s) (sorted_by (λ p. p.at) named_states l)
    (each_sorted (λ p. p.at) named_states l r.steady) k in
    record {
      nodes = c.nodes ∙ total_sorted (λ p. p.at) nodes_at named_states l r.below ∙ r.nodes;
      slaves = c.slaves ∙ total_sorted (λ p. p.at) slaves_at named_states l r.below ∙ r.slaves;
    }

-- ── states that a master has ──

pub has-below : (s : Sequential) → sequential? s ≡ false → (q : ℕ) → lacking s q ≡ false → q < named_states
unfolding not_all?
has-below s e q h =
    let l = members_of s.heading.states in
    let a = or_left (any (λ n. not_below n named_states) l) (twice? l || left_out? l) (states-fine s e) in
    ltb-true q named_states (not-false (ltb q named_states)
    (any_at (λ n. not_below n named_states) l q a (not-false (has l q) h)))

-- ── charts ──

-- a slave more
one-slave : (q : ℕ) (t : Chart) → ((k : ℕ) → Counts (lay_chart t k) (nodes_in t) (slaves_in t))
    → Steady (record { at = q; part = λ k. lay_chart t k })
one-slave q t h =
    record {
      nodes = λ k. (h k).nodes ∙ sym (h 0).nodes;
      slaves = λ k. ap (◌+ 1) ((h k).slaves ∙ sym (h 0).slaves);
    }

mutual
  unfolding lay_single refused_single? nodes_in_single slaves_in_single lay_hidden lay_both total

  single-laid : (s : Single) → refused_single? s ≡ false → (k : ℕ)
      → Counts (lay_single s k) (nodes_in_single s) (slaves_in_single s)
  single-laid (sequential s) e k = record { nodes = refl; slaves = refl }
  single-laid (decomposed s ps) e k =
      let f = or_left (sequential? s) (refused_slaves? (lacking s) ps) e in
      let g = or_right (sequential? s) (refused_slaves? (lacking s) ps) e in
      node_more _ _ _ _ (in_order s ps (slaves-laid (lacking s) (has-below s f) ps g) k)
  single-laid (hidden x t y) e k =
      let f = or_left (refused? t) (optional? y) (or_right (optional? x) (refused? t || optional? y) e) in
      node_more _ _ _ _ (laid t f k)

  pub laid : (t : Chart) → refused? t ≡ false → (k : ℕ) → Counts (lay_chart t k) (nodes_in t) (slaves_in t)
  laid (single s) e k = single-laid s e k
  laid (composed a x b) e k =
      let f = or_left (refused? a) (set? x || refused? b) e in
      let g = or_right (set? x) (refused? b) (or_right (refused? a) (set? x || refused? b) e) in
      node_more _ _ _ _ (both-count _ _ _ _ _ _ (laid a f k) (laid b g (k + length (lay_chart a k).nodes)))

  slaves-laid : (lacks : ℕ → Bool) → ((q : ℕ) → lacks q ≡ false → q < named_states) → (ps : Slaves)
      → refused_slaves? lacks ps ≡ false → Ready ps
  slaves-laid lacks h (first_slave q t) e =
      let f = or_left (lacks q) (refused? t) e in
      let c : (k : ℕ) → Counts (lay_chart t k) (nodes_in t) (slaves_in t) =
      λ k. laid t (or_right (lacks q) (refused? t) e) k in
      record {
        steady = more (one-slave q t c) none;
        below = more (h q f) none;
        nodes = omega (arith, (c 0).nodes);
        slaves = omega (arith, (c 0).slaves);
      }
  slaves-laid lacks h (more_slaves ps q t) e =
      let r = slaves-laid lacks h ps (or_left (refused_slaves? lacks ps) (lacks q || refused? t) e) in
      let g = or_right (refused_slaves? lacks ps) (lacks q || refused? t) e in
      let f = or_left (lacks q) (refused? t) g in
      let c : (k : ℕ) → Counts (lay_chart t k) (nodes_in t) (slaves_in t) =
      λ k. laid t (or_right (lacks q) (refused? t) g) k in
      record {
        steady = each_append r.steady (more (one-slave q t c) none);
        below = each_append r.below (more (h q f) none);
        nodes = total-append nodes_at (placed ps) _ ∙ omega (arith, (c 0).nodes, r.nodes);
        slaves = total-append slaves_at (placed ps) _ ∙ omega (arith, (c 0).slaves, r.slaves);
      }
