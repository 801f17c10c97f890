-- A file whose records are in order (`InOrder`) is, written into bytes, a file that passes 1 to 11, and is read back as
-- it was. In this order: what is asked; read back; 1 to 5; 6 and 7; all of it.
use Rattle.std.specs.Prelude.{◌≡◌, refl, false, ◌||◌, not, ℕ, zero, suc, ◌+◌, ◌*◌, ◌≤◌, ◌<◌, get_or}
use Rattle.std.proofs.Math.Path.{sym, ap, ap₂, subst}
use Rattle.std.proofs.Common.{◌∙◌, true≢false, arith, lit<}
use Rattle.std.proofs.Math.Bool.{Bool}
use mathlib.Core.List.{List, [], append-nil}
use borrow.Author.Tests.{le-ltb}
use Rattle.std.proofs.Math.Dec.{ltb}
use Rattle.std.proofs.Math.ListN.{length}
use Rattle.layout.specs.Le.{AllBytes}
use Rattle.layout.specs.Record.{trailer_bytes, head_bytes, transition_bytes, slave_bytes, node_bytes}
use Rattle.layout.specs.Record.Laws.{length-trailer, length-head, length-transition, length-slave, length_node}
use Rattle.layout.specs.Body.{transitions_from, slaves_from, nodes_from, size_of, head_at, transition_at, start_of}
use Rattle.layout.specs.declared.body.Shape.{Shape}
use Rattle.layout.specs.declared.record.Trailer.{Trailer}
use Rattle.layout.specs.declared.record.Head.{Head}
use Rattle.layout.specs.declared.record.Slave.{Slave}
use Rattle.meaning.specs.Numbers.{first_edition, most_charts, most_slaves, most_nodes, most_transitions, most_states}
use Rattle.meaning.specs.Numbers.{most_in_chart, most_from_state}
use Rattle.meaning.specs.Sums.{tally, one}
use Rattle.meaning.specs.Sums.Laws.{or_right, or_four, any-all, any-never, tally_cong}
use Rattle.meaning.specs.Meaning.{same}
use Rattle.meaning.specs.File.{File, end_of, trailer, body_of, shape_of, file_of}
use Rattle.meaning.specs.Check.{edition?, differ, not_below, counts?, distance?, nonzero, zeros?, chart?, charts?}
use Rattle.meaning.specs.Check.{ends?}
use Rattle.meaning.specs.Check.{leaving, transitions?, in_order_at, slave?, slaves?, node_of_kind?, nodes?, naming?}
use Rattle.meaning.specs.Check.{inside?}
use Rattle.meaning.specs.Check.{refusal_of}
use Rattle.meaning.specs.Check.Laws.{Passed, below, alike, neither, is_below}
use Rattle.meaning.specs.Check.Nodes.{kind_at_most, kind₀, kind₁, kind₂, node_passes, treed}
use Rattle.meaning.specs.Rewriting.{leaving_in, transitions_in, head_for, transitions_bytes, shape_in, body_bytes}
use Rattle.meaning.specs.Rewriting.{encode}
use Rattle.agreement.specs.Every.{Every, every-at, every_imp}
use Rattle.agreement.specs.Encoded.{no_transition, Fits, slave_in, node_in, head_there, some_transition_there}
use Rattle.agreement.specs.Encoded.{slave_there}
use Rattle.agreement.specs.Encoded.{node-there, head_is, start_is, transition_is, trailer_for, length-encode, end_is}
use Rattle.agreement.specs.Encoded.{trailer_there, trailer_is, body_is, shape_is, file_is}
use Rattle.agreement.specs.Recovered.{Reads, reads_back}
use Rattle.agreement.specs.Passed.{passes}
use Rattle.agreement.specs.Again.{equal, there, head_zero, transition_zero, slave_zero, node_zero}
use Rattle.agreement.specs.Again.{trailer_zero, zeros-at, leaving_list}
use Rattle.agreement.specs.Bytes.{Bytes, end, byte, all-bytes, and, nought, in_turn_lem, head_bytes_lem}
use Rattle.agreement.specs.Bytes.{transitions_bytes_lem}
use Rattle.agreement.specs.Bytes.{node_bytes_lem, trailer-bytes}
use Rattle.propositions.proofs.Exchange.Records.{Turned, kept, slaves-turned, nodes_turned, naming_turned}
use Rattle.propositions.proofs.Exchange.Records.{inside-turned}

pub record InOrder (R : File) : Type 0 where
  pub fits : Fits R
  pub some_chart : 0 < R.charts
  pub charts : R.charts ≤ most_charts
  pub slaves : R.slaves ≤ most_slaves
  pub some_node : 0 < R.nodes
  pub nodes : R.nodes ≤ most_nodes
  pub total : transitions_in R ≤ most_transitions
  pub some_state : (c : ℕ) → c < R.charts → 0 < (R.chart c).states
  pub states : (c : ℕ) → c < R.charts → (R.chart c).states ≤ most_states
  pub initial : (c : ℕ) → c < R.charts → (R.chart c).initial < (R.chart c).states
  pub list : (c : ℕ) → c < R.charts → length (R.chart c).transitions ≤ most_in_chart
  pub ends : (c : ℕ) → c < R.charts
      → Every (λ t. (t.from < (R.chart c).states) × (t.to < (R.chart c).states)) (R.chart c).transitions
  pub leaving : (c s : ℕ) → c < R.charts → s < (R.chart c).states
      → leaving_in (R.chart c).transitions s ≤ most_from_state
  pub eight : slaves? R ≡ false
  pub nine : nodes? R ≡ false
  pub ten : naming? R ≡ false
  pub eleven : inside? R ≡ false

-- files that agree on what is read: nothing is exchanged
pub reads_turned : (F G : File) → Reads F G → Turned F G
reads_turned F G r = record {
  charts = r.charts;
  chart = r.chart;
  slaves = r.slaves;
  slave = r.slave;
  nodes = r.nodes;
  node = λ j l. kept (r.node j l);
}

slave-bytes : (r : Slave) → r.chart < 256 → r.state < 256 → r.node < 256 → Bytes (slave_bytes r)
unfolding slave_bytes
slave-bytes r c s n = byte c (byte s (byte n (nought end)))

-- 9: the b of a chart's and of a hidden node is zero
kind_b : (R : File) (k j : ℕ) → (k ≡ 1 → ⊥) → node_of_kind? R k j ≡ false → R.b j ≡ 0
unfolding node_of_kind?
kind_b R zero j n g = alike (R.b j) 0
    (or_four (not_below (R.a j) R.charts) (differ (R.b j) 0) (differ (R.x j) 0) (differ (R.y j) 0) g).1
kind_b R (suc zero) j n g = absurd (n refl)
kind_b R (suc (suc zero)) j n g = alike (R.b j) 0 (or_right (not_below (R.a j) j) (differ (R.b j) 0) g)
kind_b R (suc (suc (suc k))) j n g = absurd (true≢false g)

module _ (R : File) (h : InOrder R) where
  abbrev ft : Fits R
  ft = h.fits

  abbrev n : Shape
  n = shape_in R

  abbrev b : List ℕ
  b = body_bytes R

  -- ── read back ──

  pub reads : Reads R (file_of (encode R))
  reads = subst (Reads R) (sym (file_is R ft)) (reads_back R ft)

  pub reads_so : Turned R (file_of (encode R))
  reads_so = reads_turned R (file_of (encode R)) reads

  -- ── 1 to 5 ──

  counts_pass : counts? (trailer (encode R)) ≡ false
  unfolding counts?
  counts_pass = ap counts? (trailer_is R ft)
      ∙ neither _ _ (neither _ _
      (neither _ _ (neither _ _ (there R.charts h.some_chart) (le-ltb most_charts R.charts h.charts))
      (le-ltb most_slaves R.slaves h.slaves))
      (neither _ _ (there R.nodes h.some_node) (le-ltb most_nodes R.nodes h.nodes)))
      (le-ltb most_transitions (transitions_in R) h.total)

  distance_passes : distance? (encode R) ≡ false
  unfolding distance?
  distance_passes = neither _ _ (equal _ _ (ap (λ t. t.distance) (trailer_is R ft) ∙ ap size_of (sym (shape_is R ft))))
      (le-ltb (end_of (encode R)) (trailer (encode R)).distance
      (let e = end_is R in
      let d : (trailer (encode R)).distance ≡ size_of (shape_in R) = ap (λ t. t.distance) (trailer_is R ft) in
      omega arith))

  zeros_pass : (nonzero (encode R) (end_of (encode R) + 10) 2
      || zeros? (shape_of (trailer (encode R))) (body_of (encode R))) ≡ false
  unfolding zeros? shape_in
  zeros_pass = neither _ _
      (zeros-at (encode R) (trailer_bytes t) [] (end_of (encode R)) 10 2
      (trailer_there R ∙ sym (append-nil (trailer_bytes t)))
      (let e = length-trailer t in omega arith) (trailer_zero t))
      (ap₂ zeros? (shape_is R ft) (body_is R ft)
      ∙ neither _ _ (neither _ _ (neither _ _
      (any-all R.charts _ (λ c l. let u = head_there R c l in
      zeros-at b (head_bytes (head_for (R.chart c))) u.0 (24 * c) 3 5 u.1
      (let e = length-head (head_for (R.chart c)) in omega arith)
      (head_zero (head_for (R.chart c)))))
      (any-all (transitions_in R) _ (λ k l. let u = some_transition_there R k l in
      zeros-at b (transition_bytes u.0) u.1 (transitions_from n + 28 * k) 2 2 u.2
      (let e = length-transition u.0 in omega arith)
      (transition_zero u.0))))
      (any-all R.slaves _ (λ i l. let u = slave_there R i l in
      zeros-at b (slave_bytes (slave_in R i)) u.0 (slaves_from n + 4 * i) 3 1 u.1
      (let e = length-slave (slave_in R i) in omega arith)
      (slave_zero (slave_in R i)))))
      (any-all R.nodes _ (λ j l. let u = node-there R j l in
      zeros-at b (node_bytes (node_in R j)) u.0 (nodes_from n + 20 * j) 3 1 u.1
      (let e = length_node (node_in R j) in omega arith)
      (node_zero (node_in R j)))))
    where
      t : Trailer
      t = trailer_for R

  -- ── 6 and 7 ──

  charts_pass : charts? n b ≡ false
  unfolding charts? chart? shape_in head_for transitions_in
  charts_pass = neither _ _ (any-all R.charts (chart? n b) (λ c l. ap form (head_is R ft c l)
      ∙ neither _ _ (neither _ _ (neither _ _ (there (R.chart c).states (h.some_state c l))
      (le-ltb most_states (R.chart c).states (h.states c l)))
      (is_below (R.chart c).initial (R.chart c).states (h.initial c l)))
      (le-ltb most_in_chart (length (R.chart c).transitions) (h.list c l))))
      (equal _ _ (start_is R ft R.charts (omega arith)))
    where
      form : Head → Bool
      form h = (same h.states 0 || ltb most_states h.states) || not_below h.initial h.states
          || ltb most_in_chart h.transitions

  transitions_pass : transitions? n b ≡ false
  unfolding transitions? ends? leaving shape_in head_for
  transitions_pass = any-all R.charts _ (λ c l. neither _ _
      (any-all (head_at n b c).transitions (ends? n b c) (λ k m. let m' = subst (λ z. k < z) (count c l) m in
      ap₂ (λ t s. not_below t.from s || not_below t.to s) (transition_is R ft c k l m') (stated c l)
      ∙ (let g = every-at (λ t. (t.from < (R.chart c).states) × (t.to < (R.chart c).states))
      (R.chart c).transitions k no_transition m' (h.ends c l) in
      neither _ _ (is_below _ _ g.0) (is_below _ _ g.1))))
      (any-all (head_at n b c).states _ (λ s m. ap (ltb most_from_state) (leaves c l s)
      ∙ le-ltb most_from_state _ (h.leaving c s l (subst (λ z. s < z) (stated c l) m)))))
    where
      count : (c : ℕ) → c < R.charts → (head_at n b c).transitions ≡ length (R.chart c).transitions
      count c l = ap (λ h. h.transitions) (head_is R ft c l)

      stated : (c : ℕ) → c < R.charts → (head_at n b c).states ≡ (R.chart c).states
      stated c l = ap (λ h. h.states) (head_is R ft c l)

      leaves : (c : ℕ) → c < R.charts → (s : ℕ)
          → tally (head_at n b c).transitions (λ u. one (same (transition_at n b (start_of n b c + u)).from s))
          ≡ leaving_in (R.chart c).transitions s
      leaves c l s = ap (λ k. tally k (λ u. one (same (transition_at n b (start_of n b c + u)).from s))) (count c l)
          ∙ tally_cong (length (R.chart c).transitions) _
          (λ u. one (same (get_or (R.chart c).transitions u no_transition).from s))
          (λ u m. ap (λ t. one (same t.from s)) (transition_is R ft c u l m))
          ∙ leaving_list (R.chart c).transitions s

  -- ── all of it ──

  pub encoded_passed : Passed (encode R)
  encoded_passed = let G = file_of (encode R) in record {
    long = let e = length-encode R in omega arith;
    edition = ap edition? (trailer_is R ft) ∙ unfold edition? in rw (equal 1 first_edition refl);
    counts = counts_pass;
    distance = distance_passes;
    zeros = zeros_pass;
    charts = ap₂ charts? (shape_is R ft) (body_is R ft) ∙ charts_pass;
    transitions = ap₂ transitions? (shape_is R ft) (body_is R ft) ∙ transitions_pass;
    slaves = slaves-turned R G reads_so ∙ h.eight;
    nodes = nodes_turned R G reads_so ∙ h.nine;
    naming = naming_turned R G reads_so ∙ h.ten;
    inside = inside-turned R G reads_so (treed R h.eight h.nine h.ten) ∙ h.eleven;
  }

  pub encoded_passes : refusal_of (encode R) ≡ 0
  encoded_passes = passes (encode R) encoded_passed

  -- ── it is made of bytes ──

  heads_are : (c : ℕ) → c < R.charts → Bytes (head_bytes (head_for (R.chart c)))
  unfolding head_for
  heads_are c l = let s = h.states c l in let i = h.initial c l in let k = h.list c l in
      head_bytes_lem (head_for (R.chart c)) (omega arith) (omega arith) (omega arith)

  lists_are : (c : ℕ) → c < R.charts → Bytes (transitions_bytes (R.chart c).transitions)
  lists_are c l = transitions_bytes_lem (R.chart c).transitions
      (every_imp (λ t. (t.from < (R.chart c).states) × (t.to < (R.chart c).states))
      (λ t. (t.from < 256) × (t.to < 256))
      (λ t g. (
        let s = h.states c l in let a = g.0 in omega arith,
        let s = h.states c l in let a = g.1 in
            omega arith,
      ))
      (R.chart c).transitions (h.ends c l))

  slaves_are : (i : ℕ) → i < R.slaves → Bytes (slave_bytes (slave_in R i))
  unfolding slaves? slave?
  slaves_are i l =
      let q = or_four (not_below (R.master i) R.charts) (not_below (R.state i) (R.chart (R.master i)).states)
      (not_below (R.node i) R.nodes)
      (not (in_order_at R i)) (any-never R.slaves (slave? R) h.eight i l) in
      let m = below (R.master i) R.charts q.0 in
      let s = below (R.state i) (R.chart (R.master i)).states q.1 in
      let k = below (R.node i) R.nodes q.2 in
      let c = h.charts in let g = h.states (R.master i) m in let n = h.nodes in
      slave-bytes (slave_in R i) (omega arith) (omega arith) (omega arith)

  nodes_are : (j : ℕ) → j < R.nodes → Bytes (node_bytes (node_in R j))
  nodes_are j l = go (R.kind j) refl (node_passes R h.nine j l)
    where
      go : (k : ℕ) → R.kind j ≡ k → node_of_kind? R (R.kind j) j ≡ false → Bytes (node_bytes (node_in R j))
      go zero e g = let a = kind₀ R (R.kind j) j e g in let b = kind_b R (R.kind j) j (λ z. omega arith) g in
          let c = h.charts in
          node_bytes_lem (node_in R j) (omega arith) (omega arith) (omega arith)
      go (suc zero) e g = let u = kind₁ R (R.kind j) j e g in let a = u.0 in let b = u.1 in let m = h.nodes in
          node_bytes_lem (node_in R j) (omega arith) (omega arith) (omega arith)
      go (suc (suc k)) e g = let w = kind_at_most R (R.kind j) j g in let e₂ : R.kind j ≡ 2 = omega arith in
          let a = kind₂ R (R.kind j) j e₂ g in let b = kind_b R (R.kind j) j (λ z. omega arith) g in
          let m = h.nodes in
          node_bytes_lem (node_in R j) (omega arith) (omega arith) (omega arith)

  pub encoded_bytes : AllBytes (encode R)
  unfolding encode body_bytes
  encoded_bytes = all-bytes
      (and (and (and (and (in_turn_lem R.charts _ heads_are) (in_turn_lem R.charts _ lists_are))
      (in_turn_lem R.slaves _ slaves_are))
      (in_turn_lem R.nodes _ nodes_are))
      (trailer-bytes t (let c = h.charts in omega arith) (let s = h.slaves in omega arith)
      (let n = h.nodes in omega arith) (lit< tt)))
    where
      t : Trailer
      t = trailer_for R
