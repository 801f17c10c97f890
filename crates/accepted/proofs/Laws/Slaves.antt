-- The slaves of what is typed for an accepted file are those of the file: what they add to a sum (`slave_sums`); in the
-- file of what is typed each is above the one before it (`slaves_climb`, `back_climbs`), so 8 does not apply to it if
-- 10 does not (`slaves_pass`).
use Rattle.std.specs.Prelude.{◌≡◌, Bool, true, false, ◌&&◌, ◌||◌, cond, ltb, eqb}
use Rattle.std.proofs.Math.Path.{refl, ap, subst}
use Rattle.std.proofs.Common.{sym, ◌∙◌, lt-ltb}
use Rattle.std.proofs.Math.Bool.{not}
use mathlib.Core.List.{List, [], ◌∷◌}
use Prim.Native.Nat.{ℕ, zero, suc, ◌+◌, ◌*◌, ◌≤◌, ◌<◌}
use Rattle.std.proofs.Math.Decide.{dec_lt}
use native.Mathlib.Omega.{arith}
use Rattle.std.proofs.Math.ListN.{length}
use Rattle.layout.specs.Le.{AllBytes}
use Rattle.layout.specs.Body.{slave_at}
use Rattle.layout.specs.declared.record.Slave.{Slave}
use Rattle.meaning.specs.Each.Laws.{each_both}
use Rattle.meaning.specs.Numbers.{first_edition}
use Rattle.meaning.specs.Sums.{tally, one}
use Rattle.meaning.specs.Sums.Laws.{any-all, tally_zero, tally-find}
use Rattle.meaning.specs.Meaning.{same, Tree, leaf, comp, hide, dec, nil, snoc}
use Rattle.meaning.specs.Meaning.{Slaves as Held}
use Rattle.meaning.specs.Laws.Bools.{same_refl, same_≢, same→≡, or_r, and_l, and_r, and_i}
use Rattle.meaning.specs.File.{File, whole_of, trailer, shape_of, file_at, file_of}
use Rattle.meaning.specs.Laws.Names.{Rule10}
use Rattle.meaning.specs.Laws.Alike.{accepted_node, accepted_sound}
use Rattle.meaning.specs.Check.{rising, in_order_at, slave?, slaves?, holds, held, refusal_of}
use Rattle.meaning.specs.Check.Laws.{neither, is_below}
use Rattle.whole.specs.Weigh.{weight, weights, of_slaves}
use Rattle.whole.proofs.Laws.Whole.{slaves-sum}
use Rattle.notation.specs.Syntax.{Chart}
use Rattle.reading.specs.Numbers.{named_charts, named_states}
use Rattle.reading.specs.Meant.{with_key, sorted_by, Placed, lay_slaves, with_node, beside, lay_hidden, lay_both}
use Rattle.reading.specs.Meant.{lay_single}
use Rattle.reading.specs.Meant.{lay_chart, placed, slaves_of, body_for, trailer_for}
use Rattle.outline.specs.Laws.Sorted.{Each, none, more, each_of, each_append, total, total-append, each_with}
use Rattle.outline.specs.Laws.Sorted.{each_sorted}
use Rattle.outline.specs.Laws.Sorted.{total_sorted}
use Rattle.outline.specs.Laws.Filed.{all_fit}
use Rattle.spelling.specs.Typed.{sequential_of, typed_of, master_of}
use Rattle.spelling.specs.Typed.{slaves_of as slavesTyped}
use Rattle.spelling.specs.Write.{chart_in}
use Rattle.faithful.specs.Faithful.{Rising}
use Rattle.faithful.specs.Laws.Back.{At, shape_for, slave_is}
use Rattle.faithful.proofs.Laws.Charts.{at_more, at_head, at_place}
use Rattle.faithful.specs.Laws.Order.{keys_with, keys_sorted, NotFalling, append-level, sorted_level}
use Rattle.accepted.specs.Tree.{Within, WithinBy, key_for, key_of, Climbs}
use Rattle.accepted.proofs.Laws.Test10.{tally-total, each_at}
use Rattle.accepted.specs.Laws.Records.{climbs_all, slave-passes, state_below, climbing}
use Rattle.accepted.proofs.Laws.Names.{drawn, whole-within}
use Rattle.accepted.proofs.Laws.Counts.{names_typed, charts_typed, slaves_typed}
use Rattle.accepted.proofs.Laws.Charts.{chart-back}

-- ── what slaves add ──

-- g of the chart and the state of each slave, where the file's slaves are of the first sixteen states
module _ (F : File) (g : ℕ → ℕ → ℕ) (low : (i : ℕ) → i < F.slaves → F.state i < named_states) where
  abbrev of : Slave → ℕ
  of r = g r.chart r.state

  abbrev of_record : ℕ → ℕ
  of_record i = g (F.master i) (F.state i)

  -- a slave whose part adds the same wherever it stands
  record Settled (p : Placed) : Type 0 where
    at : p.at < named_states
    steady : (k : ℕ) → total of (p.part k).slaves ≡ total of (p.part 0).slaves

  -- what a slave of chart c adds, with those inside
  abbrev adds : ℕ → Placed → ℕ
  adds c p = total of (p.part 0).slaves + g c p.at

  lay_total : (c : ℕ) (l : List Placed) → Each Settled l → (k : ℕ)
      → total of (lay_slaves c l k).slaves ≡ total (adds c) l
  unfolding lay_slaves total
  lay_total c [] e k = refl
  lay_total c (p ∷ l) (more h e) k =
      total-append of (p.part k).slaves _
      ∙ omega (arith, h.steady k, lay_total c l e (k + length (p.part k).nodes))

  sorted_total : (c : ℕ) (l : List Placed) → Each Settled l → (k : ℕ)
      → total of (lay_slaves c (sorted_by (λ p. p.at) named_states l) k).slaves ≡ total (adds c) l
  sorted_total c l e k =
      lay_total c (sorted_by (λ p. p.at) named_states l) (each_sorted (λ p. p.at) named_states l e) k
      ∙ total_sorted (λ p. p.at) (adds c) named_states l (each_of (λ p h. h.at) e)

  mutual
    unfolding typed_of sequential_of lay_single with_node beside lay_hidden lay_both placed weight total

    tree_total : (p : Tree) → Within F p → (k : ℕ)
        → total of (lay_chart (typed_of F p) k).slaves ≡ weight (of_slaves of_record) p
    tree_total (leaf c) h k = refl
    tree_total (comp p q x) h k =
        total-append of (lay_chart (typed_of F p) k).slaves _
        ∙ omega
        (arith, tree_total p h.0 k, tree_total q h.1 (k + length (lay_chart (typed_of F p) k).nodes))
    tree_total (hide p x y) h k = omega (arith, tree_total p h k)
    tree_total (dec c ss) h k = omega (arith, master_total c ss h.1 k)

    master_total : (c : ℕ) (ss : Held) → WithinBy F c ss → (k : ℕ)
        → total of (lay_single (master_of F (drawn F c) ss) k).slaves ≡ weights (of_slaves of_record) ss
    master_total c nil h k = refl
    master_total c (snoc ss i t) h k =
        let r = slaves-total c ss (F.state i) (typed_of F t) h.0
        (record { at = low i h.1; steady = λ k. tree_total t h.3 k ∙ sym (tree_total t h.3 0) }) in
        sorted_total c (placed (slavesTyped F ss (F.state i) (typed_of F t))) r.0 k
        ∙ omega (arith, r.1, tree_total t h.3 0, ap (λ d. g d (F.state i)) h.2)

    slaves-total : (c : ℕ) (ss : Held) (q : ℕ) (u : Chart) → WithinBy F c ss
        → Settled (record { at = q; part = λ k. lay_chart u k })
        → Each Settled (placed (slavesTyped F ss q u))
        × (total (adds c) (placed (slavesTyped F ss q u))
        ≡ weights (of_slaves of_record) ss + (total of (lay_chart u 0).slaves + g c q))
    slaves-total c nil q u h e = (more e none, omega arith)
    slaves-total c (snoc ss i t) q u h e =
        let r = slaves-total c ss (F.state i) (typed_of F t) h.0
        (record { at = low i h.1; steady = λ k. tree_total t h.3 k ∙ sym (tree_total t h.3 0) }) in (
          each_append r.0 (more e none),
          total-append (adds c) (placed (slavesTyped F ss (F.state i) (typed_of F t))) _
              ∙ omega (arith, r.1, tree_total t h.3 0, ap (λ d. g d (F.state i)) h.2),
        )

-- ── records by chart, then state ──

abbrev pub key_in : Slave → ℕ
key_in r = key_for r.chart r.state

-- those picked by one key stay in their order by the other
level-with : {A : Type 0} (key other : A → ℕ) (k : ℕ) (l : List A) → NotFalling key l
    → NotFalling key (with_key other k l)
unfolding NotFalling with_key
level-with key other k [] h = tt
level-with key other k (a ∷ l) h = go (eqb (other a) k) (level-with key other k l h.1)
  where
    go : (b : Bool) → NotFalling key (with_key other k l)
        → NotFalling key (cond b (a ∷ with_key other k l) (with_key other k l))
    go true i = (each_with other k l h.0, i)
    go false i = i

level_imp : {A : Type 0} (key other : A → ℕ) (P : A → Type 0)
    → ((a b : A) → P a → P b → key a ≤ key b → other a ≤ other b) → (l : List A) → Each P l → NotFalling key l
    → NotFalling other l
unfolding NotFalling
level_imp key other P f [] e h = tt
level_imp key other P f (a ∷ l) (more p e) h = (
  each_of (λ b q. f a b p q.0 q.1) (each_both l e h.0),
  level_imp key other P f l e h.1,
)

-- by chart, of those that come by state
chart-level : (n : ℕ) (l : List Slave) → NotFalling (λ r. r.state) l → Each (λ r. r.state < 16) l
    → NotFalling key_in (sorted_by (λ r. r.chart) n l)
unfolding sorted_by NotFalling
chart-level zero l h e = tt
chart-level (suc n) l h e =
    append-level key_in (n * 16) (sorted_by chart n l) (with_key chart n l) (chart-level n l h e)
    (level_imp (λ r. r.state) key_in (λ r. r.chart ≡ n) (λ a b p q z. omega arith) (with_key chart n l)
    (keys_with chart n l) (level-with (λ r. r.state) chart n l h))
    (each_of (λ r q. let a = q.0 in let b = q.1 in omega arith)
    (each_both (sorted_by chart n l) (keys_sorted chart n l) (each_sorted chart n l e)))
    (each_of (λ r q. omega arith) (keys_with chart n l))
  where
    chart : Slave → ℕ
    chart r = r.chart

-- no key twice, and none below one before it: rising
total-none : {A : Type 0} (key : A → ℕ) (v : ℕ) (l : List A) → total (λ a. one (same (key a) v)) l ≡ 0
    → Each (λ a. key a ≡ v → ⊥) l
unfolding total
total-none key v [] e = none
total-none key v (a ∷ l) e =
    more (λ q. let z : one (same (key a) v) ≡ 1 = ap (λ k. one (same k v)) q ∙ ap one (same_refl v) in omega arith)
    (total-none key v l (omega arith))

pub level-rising : {A : Type 0} (key : A → ℕ) (l : List A) → NotFalling key l
    → ((v : ℕ) → total (λ a. one (same (key a) v)) l ≤ 1) → Rising key l
unfolding NotFalling Rising total
level-rising key [] h f = tt
level-rising key (a ∷ l) h f = (
  each_of (λ b q. let x = q.0 in let y = q.1 in other (key a) (key b) x y)
      (each_both l h.0
      (total-none key (key a) l
      (let z = f (key a) in let y : one (same (key a) (key a)) ≡ 1 = ap one (same_refl (key a)) in omega arith))),
  level-rising key l h.1 (λ v. let z = f v in omega arith),
)
  where
    other : (m n : ℕ) → m ≤ n → (n ≡ m → ⊥) → m < n
    other m n l h = go (dec_lt m n)
      where
        go : Dec (m < n) → m < n
        go (yes i) = i
        go (no i) = absurd (h (omega arith))

one_so : (b : Bool) → 0 < one b → b ≡ true
one_so true h = refl
one_so false h = absurd (omega arith)

-- what a member adds
at_some : {A : Type 0} (g : A → ℕ) (l : List A) (i : ℕ) (a : A) → At l i a → g a ≤ total g l
unfolding total
at_some g l i a m =
    omega (arith, ap (total g) m.is, total-append g m.before (a ∷ m.after))

-- two members, one behind the other
at-two : {A : Type 0} (key : A → ℕ) (l : List A) (i : ℕ) → suc i < length l → Rising key l
    → (a : A) × (b : A) × At l i a × At l (suc i) b × (key a < key b)
unfolding Rising
at-two key [] i h r = absurd (omega arith)
at-two key (a ∷ []) i h r = absurd (omega arith)
at-two key (a ∷ (b ∷ l)) zero h r =
    (a, b, at_head a (b ∷ l), at_more a (b ∷ l) 0 b (at_head b l), first r.0)
  where
    first : Each (λ c. key a < key c) (b ∷ l) → key a < key b
    first (more p e) = p
at-two key (a ∷ (b ∷ l)) (suc i) h r =
    let q = at-two key (b ∷ l) i (omega arith) r.1 in
    (q.0, q.1, at_more a (b ∷ l) i q.0 q.2, at_more a (b ∷ l) (suc i) q.1 q.3, q.4)

-- by their keys
above : (c q d s : ℕ) → s < 16 → key_for c q < key_for d s → (ltb c d || (same c d && ltb q s)) ≡ true
above c q d s l h = go (dec_lt c d)
  where
    go : Dec (c < d) → (ltb c d || (same c d && ltb q s)) ≡ true
    go (yes i) = rw (lt-ltb c d i)
    go (no i) =
        let e : c ≡ d = omega arith in
        or_r (ltb c d) (same c d && ltb q s)
        (and_i (ap (same c) (sym e) ∙ same_refl c) (lt-ltb q s (omega arith)))

-- ── those of an accepted file ──

-- numbers that rise have each value once at most
climbs_once : (n : ℕ) (k : ℕ → ℕ) → ((i j : ℕ) → i < j → j < n → k i < k j) → (v : ℕ)
    → tally n (λ i. one (same (k i) v)) ≤ 1
unfolding tally
climbs_once zero k h v = omega arith
climbs_once (suc n) k h v = go (same (k n) v) refl (climbs_once n k (λ i j a b. h i j a (omega arith)) v)
  where
    go : (b : Bool) → same (k n) v ≡ b → tally n (λ i. one (same (k i) v)) ≤ 1
        → one b + tally n (λ i. one (same (k i) v)) ≤ 1
    go true e i =
        let q = same→≡ (k n) v e in
        let z = tally_zero n (λ i. one (same (k i) v))
        (λ i l. ap one (same_≢ (k i) v (λ y. let c = h i n l (omega arith) in omega arith))) in
        omega arith
    go false e i = omega arith

module _ (f : List ℕ) (bytes : AllBytes f) (ok : refusal_of f ≡ 0) where
  abbrev F : File
  F = file_of f

  abbrev t : Chart
  t = chart_in F

  -- ── as typed ──

  pub slave_sums : (g : ℕ → ℕ → ℕ)
      → total (λ r. g r.chart r.state) (slaves_of t) ≡ tally F.slaves (λ i. g (F.master i) (F.state i))
  slave_sums g =
      let l = (lay_chart t 0).slaves in
      let e = all_fit t (names_typed f bytes ok) in
      total_sorted (λ r. r.chart) (λ r. g r.chart r.state) named_charts
      (sorted_by (λ r. r.state) named_states l)
      (each_sorted (λ r. r.state) named_states l (each_of (λ r h. h.chart) e))
      ∙ total_sorted (λ r. r.state) (λ r. g r.chart r.state) named_states l (each_of (λ r h. h.state) e)
      ∙ tree_total F g (state_below f ok) (whole_of F) (whole-within F (accepted_sound f ok) (accepted_node f ok)) 0
      ∙ slaves-sum F (accepted_sound f ok) (accepted_node f ok) (λ i. g (F.master i) (F.state i))

  -- the number of slaves with a key
  key_times : (v : ℕ)
      → total (λ r. one (same (key_in r) v)) (slaves_of t)
      ≡ tally F.slaves (λ i. one (same (key_of F i) v))
  key_times v = slave_sums (λ c q. one (same (key_for c q) v))

  pub slaves_climb : Rising key_in (slaves_of t)
  slaves_climb =
      let l = (lay_chart t 0).slaves in
      let e = all_fit t (names_typed f bytes ok) in
      level-rising key_in (slaves_of t)
      (chart-level named_charts (sorted_by (λ r. r.state) named_states l) (sorted_level (λ r. r.state) named_states l)
      (keys_sorted (λ r. r.state) named_states l))
      (λ v. let z = key_times v in
      let y = climbs_once F.slaves (key_of F)
      (climbs_all F.slaves (key_of F) (climbing f ok)) v in omega arith)

  -- a slave typed is one of the file's
  slave-of : (i : ℕ) (r : Slave) → At (slaves_of t) i r
      → (j : ℕ) × (j < F.slaves) × (F.master j ≡ r.chart) × (F.state j ≡ r.state)
  slave-of i r m =
      let z = key_times (key_in r) in
      let a = at_some (λ s. one (same (key_in s) (key_in r))) (slaves_of t) i r m in
      let o : one (same (key_in r) (key_in r)) ≡ 1 = ap one (same_refl (key_in r)) in
      let x = tally-find F.slaves (λ j. one (same (key_of F j) (key_in r))) (omega arith) in
      let k = same→≡ (key_of F x.0) (key_in r) (one_so _ x.2) in
      let b = state_below f ok x.0 x.1 in
      let d = each_at (slaves_of t) i r states m in
      (x.0, x.1, omega arith, omega arith)
    where
      states : Each (λ r. r.state < named_states) (slaves_of t)
      states =
          each_sorted (λ r. r.chart) named_charts (sorted_by (λ r. r.state) named_states (lay_chart t 0).slaves)
          (keys_sorted (λ r. r.state) named_states (lay_chart t 0).slaves)

  -- ── in the file of what is typed ──

  abbrev G : File
  G = file_at (shape_for t) (body_for t)

  pub slaves-many : G.slaves ≡ F.slaves
  unfolding file_at trailer_for shape_of
  slaves-many = slaves_typed f bytes ok

  below-count : (i : ℕ) → i < G.slaves → i < length (slaves_of t)
  unfolding file_at trailer_for shape_of
  below-count i l = l

  record_is : (i : ℕ) (r : Slave) → At (slaves_of t) i r → (G.master i ≡ r.chart) × (G.state i ≡ r.state)
  unfolding file_at
  record_is i r m = let e = slave_is t i r m in (ap (λ r. r.chart) e, ap (λ r. r.state) e)

  -- each slave has the chart and the state of one of the file's
  back-of : (i : ℕ) → i < G.slaves
      → (j : ℕ) × (j < F.slaves) × (G.master i ≡ F.master j) × (G.state i ≡ F.state j)
  back-of i l =
      let x = at_place (slaves_of t) i (below-count i l) in
      let e = record_is i x.0 x.1 in
      let a = slave-of i x.0 x.1 in
      (a.0, a.1, e.0 ∙ sym a.2, e.1 ∙ sym a.3)

  pub back_sums : (g : ℕ → ℕ → ℕ)
      → tally G.slaves (λ i. g (G.master i) (G.state i)) ≡ tally F.slaves (λ i. g (F.master i) (F.state i))
  unfolding file_at trailer_for shape_of
  back_sums g =
      tally-total (λ r. g r.chart r.state) (slave_at (shape_for t) (body_for t)) (slaves_of t)
      (λ i r m. slave_is t i r m)
      ∙ slave_sums g

  pub back-states : (i : ℕ) → i < G.slaves → G.state i < 16
  back-states i l = let a = back-of i l in let b = state_below f ok a.0 a.1 in omega (arith, a.3, b)

  pub back_climbs : Climbs G.slaves (key_of G)
  back_climbs i l =
      let x = at-two key_in (slaves_of t) i (below-count (suc i) l) slaves_climb in
      let p = record_is i x.0 x.2 in
      let q = record_is (suc i) x.1 x.3 in
      omega (arith, p.0, p.1, q.0, q.1, x.4)

  -- ── 8 ──

  as_many : G.charts ≡ F.charts
  unfolding file_at trailer_for shape_of
  as_many = charts_typed f bytes ok

  order : (i : ℕ) → i < G.slaves → not (in_order_at G i) ≡ false
  unfolding rising
  order zero l = refl
  order (suc i) l =
      ap not (above (G.master i) (G.state i) (G.master (suc i)) (G.state (suc i)) (back-states (suc i) l)
      (back_climbs i l))

  module _ (first : (trailer f).edition ≡ first_edition) (ten : Rule10 G) where
    states-back : (c : ℕ) → c < F.charts → (G.chart c).states ≡ (F.chart c).states
    unfolding file_at
    states-back c l = ap (λ C. C.states) (chart-back f bytes ok first c l)

    -- the node that holds the master is above that of the slave
    node_low : (i : ℕ) → i < G.slaves → G.master i < G.charts → G.node i < G.nodes
    unfolding held
    node_low i l m =
        let e = ten.once (G.master i) m in
        let x = tally-find G.nodes (λ k. one (holds G k (G.master i))) (omega arith) in
        let h = one_so (holds G x.0 (G.master i)) x.2 in
        let y = x.1 in
        let z = ten.master_higher i x.0 l x.1 (same→≡ (G.kind x.0) 0 (and_l _ _ h))
        (same→≡ (G.a x.0) (G.master i) (and_r (same (G.kind x.0) 0) _ h)) in
        omega arith

    back_passes : (i : ℕ) → i < G.slaves → slave? G i ≡ false
    unfolding slave?
    back_passes i l =
        let a = back-of i l in
        let p = slave-passes f ok a.0 a.1 in
        let c : G.master i < F.charts = omega (arith, a.2, p.0) in
        let b = states-back (G.master i) c in
        let g : G.state i < (F.chart (G.master i)).states =
        subst (λ k. G.state i < (F.chart k).states) (sym a.2) (omega (arith, a.3, p.1)) in
        neither _ _
        (neither _ _
        (neither _ _ (is_below (G.master i) G.charts (omega (arith, as_many, c)))
        (is_below (G.state i) (G.chart (G.master i)).states (omega (arith, b, g))))
        (is_below (G.node i) G.nodes (node_low i l (omega (arith, as_many, c)))))
        (order i l)

    pub slaves_pass : slaves? G ≡ false
    unfolding slaves?
    slaves_pass = any-all G.slaves (slave? G) back_passes
