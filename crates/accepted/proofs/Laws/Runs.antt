-- What the nodes and slaves of a chart name and hold, wherever they stand: `chart-whole`. That each node but the last
-- is named once is a sum: the numbers named, with those below the part, are all below its last (`under`).
use Rattle.std.specs.Prelude.{◌≡◌, refl, Bool, true, false, ◌||◌, List, [], ◌∷◌, ◌++◌, map, ◌⊎◌, ℕ, suc, ◌+◌, ◌-◌, ◌<◌}
use Rattle.std.specs.Prelude.{ltb, eqb, length}
use Rattle.std.proofs.Common.{sym, ap, ◌∙◌, subst, append_assoc, inl, inr, arith, lt-ltb, le-ltb, length-append}
use Rattle.std.proofs.Math.Option.{Option}
use Rattle.std.proofs.Math.Decide.{dec_lt}
use Rattle.layout.specs.declared.record.Slave.{Slave}
use Rattle.layout.specs.declared.record.Node.{Node}
use Rattle.meaning.specs.Sums.{one}
use Rattle.meaning.specs.Meaning.{Set, ∅, same}
use Rattle.meaning.specs.Laws.Bools.{same_refl, same_≢}
use Rattle.meaning.specs.Sums.Laws.{or_left, or_right}
use Rattle.notation.specs.Syntax.{Signals, Sequential, Single, sequential, decomposed, hidden, Chart, single}
use Rattle.notation.specs.Syntax.{composed, Slaves, first_slave, more_slaves}
use Rattle.reading.specs.Numbers.{named_states}
use Rattle.reading.specs.Names.{set?, optional?, sequential?, name_of, sequentials_in, sequentials_of}
use Rattle.reading.specs.Meant.{set_of, optional_of, Laid, last_of, lay_slaves, with_node, beside, chart_node}
use Rattle.reading.specs.Meant.{lay_hidden}
use Rattle.reading.specs.Meant.{lay_both, lay_single, lay_chart}
use Rattle.forms.specs.Laws.Slaves.{Pair}
use Rattle.outline.specs.Tree.{lacking, refused_single?, refused?, refused_slaves?}
use Rattle.outline.specs.Laws.Sorted.{Each, none, more, each_of, each_append, each_sorted, total, total-append}
use Rattle.outline.specs.Laws.Laid.{has-below}
use Rattle.faithful.specs.Faithful.{pairs_of}
use Rattle.faithful.specs.Laws.Parts.{placed_of, by_state, by_state_lem, states-below, times_of, times_all}
use Rattle.faithful.specs.Laws.Parts.{state_times, slave_for, behind}
use Rattle.accepted.specs.Parts.{names_by, holds_by, named_in, held_in, under, Mastered, Whole}

-- ── the numbers up to one ──

under_next : (m j : ℕ) → under (suc m) j ≡ under m j + one (same m j)
under_next m j = go (dec_lt j m) (dec_lt m j)
  where
    values : (a b c : Bool) → ltb j (suc m) ≡ a → ltb j m ≡ b → same m j ≡ c → one a ≡ one b + one c
        → under (suc m) j ≡ under m j + one (same m j)
    values a b c p q r e = rw (p, q, r) e

    go : Dec (j < m) → Dec (m < j) → under (suc m) j ≡ under m j + one (same m j)
    go (yes l) d =
        values true true false (lt-ltb j (suc m) (omega arith)) (lt-ltb j m l) (same_≢ m j (λ e. omega arith)) refl
    go (no l) (yes g) =
        values false false false (le-ltb j (suc m) (omega arith)) (le-ltb j m (omega arith))
        (same_≢ m j (λ e. omega arith)) refl
    go (no l) (no g) =
        let e : m ≡ j = omega arith in
        values true false true (lt-ltb j (suc m) (omega arith)) (le-ltb j m (omega arith))
        (ap (same m) (sym e) ∙ same_refl m) refl

under_is : (m n j : ℕ) → m ≡ n → under m j ≡ under n j
under_is m n j e = ap (λ i. under i j) e

-- ── one node ──

chart-names : (j : ℕ) (s : Sequential) → names_by j (chart_node s) ≡ 0
unfolding names_by same
chart-names j s = refl

chart-holds : (c : ℕ) (s : Sequential) → holds_by c (chart_node s) ≡ one (eqb (name_of s) c)
unfolding holds_by same
chart-holds c s = refl

both-names : (j a b : ℕ) (x y : Set)
    → names_by j (record { kind = 1; a = a; b = b; x = x; y = y }) ≡ one (same a j) + one (same b j)
unfolding names_by same
both-names j a b x y = omega arith

both-holds : (c a b : ℕ) (x y : Set) → holds_by c (record { kind = 1; a = a; b = b; x = x; y = y }) ≡ 0
unfolding holds_by same
both-holds c a b x y = refl

hidden_names : (j a : ℕ) (x y : Set)
    → names_by j (record { kind = 2; a = a; b = 0; x = x; y = y }) ≡ one (same a j)
unfolding names_by same
hidden_names j a x y = omega arith

hidden_holds : (c a : ℕ) (x y : Set) → holds_by c (record { kind = 2; a = a; b = 0; x = x; y = y }) ≡ 0
unfolding holds_by same
hidden_holds c a x y = refl

-- ── a node more, and parts beside each other ──

named-with : (j : ℕ) (p : Laid) (r : Node) → named_in j (with_node p r) ≡ named_in j p + names_by j r
unfolding with_node total
named-with j p r = omega (arith, total-append (names_by j) p.nodes (r ∷ []))

held_with : (c : ℕ) (p : Laid) (r : Node) → held_in c (with_node p r) ≡ held_in c p + holds_by c r
unfolding with_node total
held_with c p r = omega (arith, total-append (holds_by c) p.nodes (r ∷ []))

length-with : (p : Laid) (r : Node) → length (with_node p r).nodes ≡ length p.nodes + 1
unfolding with_node
length-with p r = length-append p.nodes (r ∷ [])

named-beside : (j : ℕ) (p q : Laid) → named_in j (beside p q) ≡ named_in j p + named_in j q
unfolding beside
named-beside j p q =
    omega (
      arith,
      total-append (names_by j) p.nodes q.nodes,
      total-append (λ s. one (same s.node j)) p.slaves q.slaves,
    )

held-beside : (c : ℕ) (p q : Laid) → held_in c (beside p q) ≡ held_in c p + held_in c q
unfolding beside
held-beside c p q = total-append (holds_by c) p.nodes q.nodes

-- ── masters ──

mastered_first : (k : ℕ) (l m : List Node) (s : Slave) → Mastered k l s → Mastered k (l ++ m) s
mastered_first k l m s h =
    let a = h.at in
    record {
      place = h.place;
      node = h.node;
      at =
          record {
            before = a.before;
            after = a.after ++ m;
            is = ap (◌++ m) a.is ∙ append_assoc a.before (h.node ∷ a.after) m;
            counted = a.counted;
          };
      kind = h.kind;
      chart = h.chart;
      lower = h.lower;
    }

mastered_then : (k : ℕ) (l m : List Node) (s : Slave) → Mastered (k + length l) m s → Mastered k (l ++ m) s
mastered_then k l m s h =
    let a = h.at in
    record {
      place = length l + h.place;
      node = h.node;
      at =
          record {
            before = l ++ a.before;
            after = a.after;
            is = ap (l ++◌) a.is ∙ sym (append_assoc l a.before (h.node ∷ a.after));
            counted = length-append l a.before ∙ ap (length l +◌) a.counted;
          };
      kind = h.kind;
      chart = h.chart;
      lower = let z = h.lower in omega arith;
    }

-- the master's node is the one behind l
mastered_last : (k : ℕ) (l : List Node) (u : Sequential) (s : Slave) → name_of u ≡ s.chart → s.node < k + length l
    → Mastered k (l ++ (chart_node u ∷ [])) s
mastered_last k l u s e b =
    record {
      place = length l;
      node = chart_node u;
      at = record { before = l; after = []; is = refl; counted = refl };
      kind = refl;
      chart = e;
      lower = b;
    }

-- ── slaves of a master, and charts ──

-- a slave of m, whose node is still to come behind the nodes l
abbrev Waits : ℕ → ℕ → List Node → Slave → Type 0
Waits m k l s = (m ≡ s.chart) × (s.node < k + length l)

-- slaves of m: each of their nodes is named
record WholeAll (m : ℕ) (f : ℕ → ℕ) (k : ℕ) (p : Laid) : Type 0 where
  named : (j : ℕ) → named_in j p + under k j ≡ under (k + length p.nodes) j
  held : (c : ℕ) → held_in c p ≡ f c
  mastered : Each (λ s. Mastered k p.nodes s ⊎ Waits m k p.nodes s) p.slaves

-- a chart is one, wherever it stands
abbrev Right : Chart → Type 0
Right t = (k : ℕ) → Whole (λ c. times_of c t) k (lay_chart t k)

-- the numbers up to a part's node, with it, are those up to the next part
under_last : (f : ℕ → ℕ) (k : ℕ) (p : Laid) → Whole f k p → (j : ℕ)
    → under (k + length p.nodes) j ≡ under (last_of k p) j + one (same (last_of k p) j)
under_last f k p w j =
    let n = w.some in
    under_is (k + length p.nodes) (suc (last_of k p)) j (omega arith) ∙ under_next (last_of k p) j

under-with : (k : ℕ) (p : Laid) (r : Node) (j : ℕ)
    → under (last_of k (with_node p r)) j ≡ under (k + length p.nodes) j
under-with k p r j =
    under_is (last_of k (with_node p r)) (k + length p.nodes) j (let z = length-with p r in omega arith)

-- ── each form ──

chart_case : (s : Sequential) → Right (single (sequential s))
unfolding lay_single sequentials_in total
chart_case s k =
    record {
      some = omega arith;
      named = λ j.
          let z : k + 1 - 1 ≡ k = omega arith in
          omega (arith, chart-names j s, under_is (k + 1 - 1) k j z);
      held = λ c. omega (arith, chart-holds c s);
      mastered = none;
    }

hidden_case : (x : Option Signals) (t : Chart) (y : Option Signals) → Right t → Right (single (hidden x t y))
unfolding lay_single lay_hidden sequentials_in with_node
hidden_case x t y h k =
    let p = lay_chart t k in
    let w = h k in
    let r : Node = record { kind = 2; a = last_of k p; b = 0; x = optional_of x; y = optional_of y } in
    record {
      some = omega (arith, length-with p r);
      named = λ j.
          omega (
            arith,
            named-with j p r,
            hidden_names j (last_of k p) (optional_of x) (optional_of y),
            w.named j,
            under_last (λ c. times_of c t) k p w j,
            under-with k p r j,
          );
      held = λ c.
          omega
          (arith, held_with c p r, hidden_holds c (last_of k p) (optional_of x) (optional_of y), w.held c);
      mastered = each_of (λ s m. mastered_first k p.nodes (r ∷ []) s m) w.mastered;
    }

pair_case : (a : Chart) (x : Signals) (b : Chart) → Right a → Right b → Right (composed a x b)
unfolding lay_both lay_chart sequentials_of with_node beside
pair_case a x b f g k =
    let p = lay_chart a k in
    let i = k + length p.nodes in
    let q = lay_chart b i in
    let v = f k in
    let w = g i in
    let r : Node = record { kind = 1; a = last_of k p; b = last_of i q; x = set_of x; y = ∅ } in
    let n = length-append p.nodes q.nodes in
    record {
      some = omega (arith, length-with (beside p q) r);
      named = λ j.
          omega (
            arith,
            named-with j (beside p q) r,
            named-beside j p q,
            both-names j (last_of k p) (last_of i q) (set_of x) ∅,
            v.named j,
            under_last (λ c. times_of c a) k p v j,
            w.named j,
            under_last (λ c. times_of c b) i q w j,
            under-with k (beside p q) r j,
            under_is (k + length (p.nodes ++ q.nodes)) (i + length q.nodes) j (omega arith),
          );
      held = λ c.
          omega (
            arith,
            held_with c (beside p q) r,
            held-beside c p q,
            both-holds c (last_of k p) (last_of i q) (set_of x) ∅,
            v.held c,
            w.held c,
            total-append (λ s. one (eqb (name_of s) c)) (sequentials_of a) (sequentials_of b),
          );
      mastered =
          each_of (λ s m. mastered_first k (p.nodes ++ q.nodes) (r ∷ []) s m)
          (each_append (each_of (λ s m. mastered_first k p.nodes q.nodes s m) v.mastered)
          (each_of (λ s m. mastered_then k p.nodes q.nodes s m) w.mastered));
    }

-- ── the slaves of a master ──

-- the slaves of a part, where more nodes follow those of the part
waits-first : (m k : ℕ) (l n : List Node) (s : Slave) → Mastered k l s → Mastered k (l ++ n) s ⊎ Waits m k (l ++ n) s
waits-first m k l n s h = inl (mastered_first k l n s h)

waits_then : (m k : ℕ) (l n : List Node) (s : Slave) → Mastered (k + length l) n s ⊎ Waits m (k + length l) n s
    → Mastered k (l ++ n) s ⊎ Waits m k (l ++ n) s
waits_then m k l n s (inl h) = inl (mastered_then k l n s h)
waits_then m k l n s (inr h) = inr (h.0, omega (arith, h.1, length-append l n))

slave-more : (m : ℕ) (r : Pair) (l : List Pair) (k : ℕ) → Right r.chart
    → WholeAll m (λ c. times_all c l) (behind r k) (lay_slaves m (map placed_of l) (behind r k))
    → WholeAll m (λ c. times_all c (r ∷ l)) k (lay_slaves m (map placed_of (r ∷ l)) k)
unfolding lay_slaves total
slave-more m r l k f w =
    let p = lay_chart r.chart k in
    let q = lay_slaves m (map placed_of l) (behind r k) in
    let v = f k in
    let n = length-append p.nodes q.nodes in
    record {
      named = λ j.
          omega (
            arith,
            total-append (names_by j) p.nodes q.nodes,
            total-append (λ s. one (same s.node j)) p.slaves (slave_for m r k ∷ q.slaves),
            v.named j,
            under_last (λ c. times_of c r.chart) k p v j,
            w.named j,
            under_is (k + length (p.nodes ++ q.nodes)) (behind r k + length q.nodes) j (omega arith),
          );
      held = λ c. omega (arith, total-append (holds_by c) p.nodes q.nodes, v.held c, w.held c);
      mastered =
          each_append (each_of (λ s h. waits-first m k p.nodes q.nodes s h) v.mastered)
          (more (inr (refl, omega (arith, v.some, n)))
          (each_of (λ s h. waits_then m k p.nodes q.nodes s h) w.mastered));
    }

slaves-whole : (m : ℕ) (l : List Pair) → Each (λ r. Right r.chart) l → (k : ℕ)
    → WholeAll m (λ c. times_all c l) k (lay_slaves m (map placed_of l) k)
unfolding lay_slaves total
slaves-whole m [] e k =
    record {
      named = λ j. let z : k ≡ k + 0 = omega arith in omega (arith, under_is k (k + 0) j z);
      held = λ c. refl;
      mastered = none;
    }
slaves-whole m (r ∷ l) (more f e) k = slave-more m r l k f (slaves-whole m l e (behind r k))

-- their master behind them
found : (k : ℕ) (l : List Node) (u : Sequential) (s : Slave) → Mastered k l s ⊎ Waits (name_of u) k l s
    → Mastered k (l ++ (chart_node u ∷ [])) s
found k l u s (inl h) = mastered_first k l (chart_node u ∷ []) s h
found k l u s (inr h) = mastered_last k l u s h.0 h.1

with_master : (u : Sequential) (f : ℕ → ℕ) (k : ℕ) (p : Laid) → WholeAll (name_of u) f k p
    → Whole (λ c. one (eqb (name_of u) c) + f c) k (with_node p (chart_node u))
unfolding with_node
with_master u f k p w =
    let r = chart_node u in
    record {
      some = omega (arith, length-with p r);
      named = λ j. omega (arith, named-with j p r, chart-names j u, w.named j, under-with k p r j);
      held = λ c. omega (arith, held_with c p r, chart-holds c u, w.held c);
      mastered = each_of (λ s h. found k p.nodes u s h) w.mastered;
    }

whole_is : (f g : ℕ → ℕ) (k : ℕ) (p : Laid) → ((c : ℕ) → f c ≡ g c) → Whole f k p → Whole g k p
whole_is f g k p e w =
    record { some = w.some; named = w.named; held = λ c. w.held c ∙ e c; mastered = w.mastered }

master_case : (u : Sequential) (ps : Slaves) → Each (λ r. r.state < named_states) (pairs_of ps)
    → Each (λ r. Right r.chart) (pairs_of ps) → Right (single (decomposed u ps))
unfolding lay_single sequentials_in total
master_case u ps b e k =
    subst (λ l. Whole (λ c. times_of c (single (decomposed u ps))) k
    (with_node (lay_slaves (name_of u) l k) (chart_node u)))
    (sym (by_state_lem ps))
    (whole_is (λ c. one (eqb (name_of u) c) + times_all c (by_state ps))
    (λ c. times_of c (single (decomposed u ps))) k _
    (λ c. ap (one (eqb (name_of u) c) +◌) (state_times c ps b))
    (with_master u (λ c. times_all c (by_state ps)) k _
    (slaves-whole (name_of u) (by_state ps) (each_sorted (λ r. r.state) named_states (pairs_of ps) e) k)))

-- ── all forms ──

mutual
  unfolding refused_single? pairs_of lay_single sequentials_in

  single-whole : (s : Single) → refused_single? s ≡ false → Right (single s)
  single-whole (sequential s) e k = chart_case s k
  single-whole (decomposed s ps) e k =
      let f = or_left (sequential? s) (refused_slaves? (lacking s) ps) e in
      let g = or_right (sequential? s) (refused_slaves? (lacking s) ps) e in
      master_case s ps (states-below (lacking s) (has-below s f) ps g) (pairs_whole (lacking s) ps g) k
  single-whole (hidden x t y) e k =
      hidden_case x t y
      (λ i. chart-whole t (or_left (refused? t) (optional? y) (or_right (optional? x) (refused? t || optional? y) e)) i)
      k

  pub chart-whole : (t : Chart) → refused? t ≡ false → Right t
  chart-whole (single s) e k = single-whole s e k
  chart-whole (composed a x b) e k =
      pair_case a x b (λ i. chart-whole a (or_left (refused? a) (set? x || refused? b) e) i)
      (λ i. chart-whole b (or_right (set? x) (refused? b) (or_right (refused? a) (set? x || refused? b) e)) i) k

  pairs_whole : (lacks : ℕ → Bool) (ps : Slaves) → refused_slaves? lacks ps ≡ false
      → Each (λ r. Right r.chart) (pairs_of ps)
  pairs_whole lacks (first_slave q t) e = more (λ i. chart-whole t (or_right (lacks q) (refused? t) e) i) none
  pairs_whole lacks (more_slaves ps q t) e =
      let f = or_right (refused_slaves? lacks ps) (lacks q || refused? t) e in
      each_append (pairs_whole lacks ps (or_left (refused_slaves? lacks ps) (lacks q || refused? t) e))
      (more (λ i. chart-whole t (or_right (lacks q) (refused? t) f) i) none)
