-- Over bytes: the file with a and b of a composed node exchanged is refused as before (`same_refusal`), and holds the
-- same records but for that exchange (`turns`). In this order: the body's records; tests 5 to 7; the file.
use Rattle.std.specs.Prelude.{◌≡◌, Bool, true, false, length, drop}
use Rattle.std.proofs.Math.Path.{refl, sym, ap, ap₂, subst}
use Rattle.std.proofs.Common.{◌∙◌}
use Rattle.std.proofs.Math.Bool.{◌||◌}
use mathlib.Core.List.{List, ◌∷◌}
use Rattle.std.proofs.Math.Logic.{⊎_elim}
use Prim.Native.Nat.{ℕ, zero, suc, ◌+◌, ◌-◌, ◌*◌, ◌<◌, ◌≤◌}
use native.Mathlib.Omega.{arith}
use borrow.Author.Tests.{ltb-false}
use Rattle.std.proofs.Math.Dec.{ltb}
use Rattle.std.proofs.Math.ListN.{get_or, take, length-drop}
use Rattle.std.proofs.Math.Seq.{get_or-drop, length-take-le}
use Rattle.layout.specs.Record.{trailer_of, node_of}
use Rattle.layout.specs.Body.{transitions_from, slaves_from, nodes_from, size_of, head_at, transition_at, slave_at}
use Rattle.layout.specs.Body.{node_at}
use Rattle.layout.specs.Body.{start_of, from, transitions_of}
use Rattle.layout.specs.Body.Laws.{start_of_mono}
use Rattle.layout.specs.declared.body.Shape.{Shape}
use Rattle.meaning.specs.Numbers.{stay_edition, most_states, most_in_chart, most_from_state}
use Rattle.meaning.specs.Sums.{any_up_to, one}
use Rattle.meaning.specs.Sums.Laws.{or_left, or_right, any_cong, tally_cong}
use Rattle.meaning.specs.Meaning.{same}
use Rattle.meaning.specs.File.{File, end_of, trailer, body_of, shape_of, chart_of, file_at, file_of}
use Rattle.meaning.specs.Check.{Test, first_of, not_below, differ, edition?, counts?, distance?, nonzero, zeros?}
use Rattle.meaning.specs.Check.{chart?}
use Rattle.meaning.specs.Check.{charts?, in_chart, ends?, leaving, transitions?, file_tests, refusal_of}
use Rattle.meaning.specs.Check.Laws.{alike, summed, eq_or-not}
use Rattle.meaning.specs.Check.Nodes.{treed}
use Rattle.propositions.specs.Exchange.{swap_at, parts_in, exchange, HasComposed}
use Rattle.propositions.proofs.Exchange.Records.{exchanged, Stands, kept, swapped, Turned, slaves-turned}
use Rattle.propositions.proofs.Exchange.Records.{nodes_turned, naming_turned, inside-turned}
use Rattle.propositions.specs.Exchange.Swap.{length_swap, swap_other, swap_first, swap_second, drop-behind}
use Rattle.propositions.specs.Exchange.Swap.{take_swap, drop_swap, Agrees, head-agrees, transition-agrees}
use Rattle.propositions.specs.Exchange.Swap.{slave-agrees, node_agrees, le-agrees}

-- ── the body ──

module _ (n : Shape) (b : List ℕ) (j : ℕ) (size : length b ≡ size_of n) (there : j < n.nodes) where
  abbrev q : ℕ
  q = parts_in n j

  abbrev b' : List ℕ
  b' = swap_at q b

  -- w bytes from k on, all before the two
  apart_from : (w k : ℕ) → k + w < suc q → Agrees w (drop k b') (drop k b)
  apart_from w k l i m = get_or-drop k b' i 0 ∙ swap_other q b (k + i) (λ e. omega arith) (λ e. omega arith)
      ∙ sym (get_or-drop k b i 0)

  head-same : (c : ℕ) → c < n.charts → head_at n b' c ≡ head_at n b c
  unfolding head_at
  head-same c l = head-agrees (drop (24 * c) b') (drop (24 * c) b) (apart_from 24 (24 * c) (omega arith))

  transition-same : (t : ℕ) → t < n.transitions → transition_at n b' t ≡ transition_at n b t
  unfolding transition_at
  transition-same t l = let at = transitions_from n + 28 * t in
      transition-agrees (drop at b') (drop at b) (apart_from 28 at (omega arith))

  slave-same : (i : ℕ) → i < n.slaves → slave_at n b' i ≡ slave_at n b i
  unfolding slave_at
  slave-same i l = let at = slaves_from n + 4 * i in
      slave-agrees (drop at b') (drop at b) (apart_from 4 at (omega arith))

  node_same : (k : ℕ) → (k ≡ j → ⊥) → node_at n b' k ≡ node_at n b k
  unfolding node_at
  node_same k h = let at = nodes_from n + 20 * k in node_agrees (drop at b') (drop at b)
      (λ i m. get_or-drop at b' i 0 ∙ swap_other q b (at + i) (λ e. h (omega arith)) (λ e. h (omega arith))
      ∙ sym (get_or-drop at b i 0))

  node_turns : node_at n b' j ≡ exchanged (node_at n b j)
  unfolding node_at node_of
  node_turns = λ i. record {
    kind = (get_or-drop at b' 0 0 ∙ swap_other q b (at + 0) (λ e. omega arith) (λ e. omega arith)
        ∙ sym (get_or-drop at b 0 0)) i;
    a = (get_or-drop at b' 1 0 ∙ swap_first q b (omega arith)
        ∙ ap (λ z. get_or b z 0) (let e : suc q ≡ at + 2 = omega arith in e) ∙ sym (get_or-drop at b 2 0)) i;
    b = (get_or-drop at b' 2 0 ∙ ap (λ z. get_or b' z 0) (let e : at + 2 ≡ suc q = omega arith in e)
        ∙ swap_second q b (omega arith) ∙ sym (get_or-drop at b 1 0)) i;
    x = le-agrees 8 (drop 4 (drop at b')) (drop 4 (drop at b)) (behind 4 (omega arith)) i;
    y = le-agrees 8 (drop 12 (drop at b')) (drop 12 (drop at b)) (behind 12 (omega arith)) i;
  }
    where
      at : ℕ
      at = nodes_from n + 20 * j

      behind : (k : ℕ) → 4 ≤ k → Agrees 8 (drop k (drop at b')) (drop k (drop at b))
      behind k l i m = get_or-drop k (drop at b') i 0 ∙ get_or-drop at b' (k + i) 0
          ∙ swap_other q b (at + (k + i)) (λ e. omega arith) (λ e. omega arith)
          ∙ sym (get_or-drop at b (k + i) 0) ∙ sym (get_or-drop k (drop at b) i 0)

  start-same : (c : ℕ) → c ≤ n.charts → start_of n b' c ≡ start_of n b c
  unfolding start_of
  start-same zero l = refl
  start-same (suc c) l = ap₂ (λ s h. s + h.transitions) (start-same c (omega arith)) (head-same c (omega arith))

  -- ── 5 to 7 ──

  nonzero-same : (at k : ℕ) → ((i : ℕ) → i < k → (at + i ≡ q → ⊥) × (at + i ≡ suc q → ⊥))
      → nonzero b' at k ≡ nonzero b at k
  unfolding nonzero
  nonzero-same at k h = any_cong k _ _ (λ i l. ap (λ z. differ z 0) (swap_other q b (at + i) (h i l).0 (h i l).1))

  -- 5
  zeros-same : zeros? n b' ≡ zeros? n b
  unfolding zeros?
  zeros-same = ap₂ ◌||◌ (ap₂ ◌||◌ (ap₂ ◌||◌
      (any_cong n.charts _ _ (λ c l. nonzero-same (24 * c + 3) 5 (λ i m. (λ e. omega arith, λ e. omega arith))))
      (any_cong n.transitions _ _
      (λ t l. nonzero-same (transitions_from n + 28 * t + 2) 2 (λ i m. (λ e. omega arith, λ e. omega arith)))))
      (any_cong n.slaves _ _
      (λ k l. nonzero-same (slaves_from n + 4 * k + 3) 1 (λ i m. (λ e. omega arith, λ e. omega arith)))))
      (any_cong n.nodes _ _
      (λ k l. nonzero-same (nodes_from n + 20 * k + 3) 1 (λ i m. (λ e. omega arith, λ e. omega arith))))

  -- 6
  charts-same : charts? n b' ≡ charts? n b
  unfolding charts? chart?
  charts-same = ap₂ ◌||◌
      (any_cong n.charts _ _
      (λ c l. ap (λ h. (same h.states 0 || ltb most_states h.states) || not_below h.initial h.states
      || ltb most_in_chart h.transitions) (head-same c l)))
      (ap (λ s. differ s n.transitions) (start-same n.charts (omega arith)))

  module _ (six : charts? n b ≡ false) where
    in_list : (c k : ℕ) → c < n.charts → k < (head_at n b c).transitions → start_of n b c + k < n.transitions
    in_list c k l m = let e = summed n b six in let g = start_of_mono n b c n.charts l in omega arith

    own_same : (c k : ℕ) → c < n.charts → k < (head_at n b c).transitions → in_chart n b' c k ≡ in_chart n b c k
    own_same c k l m = ap (λ s. transition_at n b' (s + k)) (start-same c (omega arith))
        ∙ transition-same (start_of n b c + k) (in_list c k l m)

    -- 7
    leaving-same : (c s : ℕ) → c < n.charts
        → leaving n b' c s (head_at n b c).transitions ≡ leaving n b c s (head_at n b c).transitions
    unfolding leaving
    leaving-same c s l = tally_cong (head_at n b c).transitions _ _
        (λ k m. ap (λ t. one (same t.from s)) (own_same c k l m))

    ends_same : (c k : ℕ) → c < n.charts → k < (head_at n b c).transitions → ends? n b' c k ≡ ends? n b c k
    unfolding ends?
    ends_same c k l m = ap₂ (λ t h. not_below t.from h.states || not_below t.to h.states) (own_same c k l m)
        (head-same c l)

    transitions_same : transitions? n b' ≡ transitions? n b
    unfolding transitions?
    transitions_same = any_cong n.charts _ _ (λ c l.
        ap (λ h. any_up_to h.transitions (ends? n b' c)
        || any_up_to h.states (λ s. ltb most_from_state (leaving n b' c s h.transitions))) (head-same c l)
        ∙ ap₂ ◌||◌ (any_cong (head_at n b c).transitions _ _ (λ k m. ends_same c k l m))
        (any_cong (head_at n b c).states _ _ (λ s m. ap (ltb most_from_state) (leaving-same c s l))))

    -- ── the records ──

    run_same : (k m : ℕ) → ((i : ℕ) → i < m → k + i < n.transitions)
        → from (transition_at n b') k m ≡ from (transition_at n b) k m
    unfolding from
    run_same k zero h = refl
    run_same k (suc m) h = ap₂ ◌∷◌ (transition-same k (let e = h 0 (omega arith) in omega arith))
        (run_same (suc k) m (λ i l. let e = h (suc i) (omega arith) in omega arith))

    chart-same : (c : ℕ) → c < n.charts → chart_of n b' c ≡ chart_of n b c
    unfolding chart_of transitions_of
    chart-same c l = ap₂ (λ h ts. record {
      states = h.states;
      initial = h.initial;
      transitions = ts;
      feedback = h.feedback;
      extra = h.extra;
      stays = same n.edition stay_edition;
    }) (head-same c l)
        (ap₂ (λ s h. from (transition_at n b') s h.transitions) (start-same c (omega arith)) (head-same c l)
        ∙ run_same (start_of n b c) (head_at n b c).transitions (λ i m. in_list c i l m))

    file-turns : (node_at n b j).kind ≡ 1 → Turned (file_at n b) (file_at n b')
    unfolding file_at
    file-turns one = record {
      charts = refl;
      chart = chart-same;
      slaves = refl;
      slave = slave-same;
      nodes = refl;
      node = λ k l. ⊎_elim (λ e. subst (λ z. Stands (node_at n b z) (node_at n b' z)) (sym e) (swapped one node_turns))
          (λ h. kept (node_same k h)) (eq_or-not k j);
    }

-- ── one test after another ──

refused_alike : (k : ℕ) (p p' : Bool) (ts ts' : List Test) → p' ≡ p → (p ≡ false → first_of ts' ≡ first_of ts)
    → first_of (record { number = k; applies = p' } ∷ ts') ≡ first_of (record { number = k; applies = p } ∷ ts)
unfolding first_of
refused_alike k true p' ts ts' e h = rw e
refused_alike k false p' ts ts' e h = rw e (h refl)

-- ── the file ──

module _ (j : ℕ) (f : List ℕ) (h : HasComposed j f) where
  abbrev n : Shape
  n = shape_of (trailer f)

  abbrev d : ℕ
  d = (trailer f).distance

  abbrev f' : List ℕ
  f' = exchange j f

  sized : d ≡ size_of n
  unfolding distance?
  sized = alike d (size_of n) (or_left (differ d (size_of n)) (ltb (end_of f) d) h.distance)

  within-file : d ≤ end_of f
  unfolding distance?
  within-file = ltb-false (end_of f) d (or_right (differ d (size_of n)) (ltb (end_of f) d) h.distance)

  parts_within : suc (parts_in n j) < d
  unfolding shape_of
  parts_within = let e = sized in let l = h.there in omega arith

  length-same : length f' ≡ length f
  unfolding exchange
  length-same = length_swap ((end_of f - d) + parts_in n j) f

  end_same : end_of f' ≡ end_of f
  end_same = ap (λ z. z - 12) length-same

  before-end : suc ((end_of f - d) + parts_in n j) < end_of f
  before-end = let e = parts_within in let l = within-file in omega arith

  pub trailer-same : trailer f' ≡ trailer f
  unfolding trailer exchange
  trailer-same = ap (λ e. trailer_of (drop e f')) end_same
      ∙ ap trailer_of (drop-behind ((end_of f - d) + parts_in n j) f (end_of f) before-end)

  body_same : body_of f' ≡ swap_at (parts_in n j) (body_of f)
  unfolding body_of exchange
  body_same = ap₂ (λ t e. take t.distance (drop (e - t.distance) f')) trailer-same end_same
      ∙ ap (take d) (drop_swap (parts_in n j) f (end_of f - d))
      ∙ take_swap (parts_in n j) (drop (end_of f - d) f) d parts_within

  body-size : length (body_of f) ≡ size_of n
  unfolding body_of
  body-size = length-take-le d (drop (end_of f - d) f)
      (let e = length-drop (end_of f - d) f in let l = within-file in omega arith) ∙ sized

  node-there : j < n.nodes
  unfolding shape_of
  node-there = h.there

  kind_one : (node_at n (body_of f) j).kind ≡ 1
  unfolding file_of file_at
  kind_one = h.composed

  file-same : file_at (shape_of (trailer f')) (body_of f') ≡ file_at n (swap_at (parts_in n j) (body_of f))
  file-same = ap₂ (λ t b. file_at (shape_of t) b) trailer-same body_same

  turns_at : charts? n (body_of f) ≡ false
      → Turned (file_at n (body_of f)) (file_at (shape_of (trailer f')) (body_of f'))
  turns_at six = subst (λ G. Turned (file_at n (body_of f)) G) (sym file-same)
      (file-turns n (body_of f) j body-size node-there six kind_one)

  kind_same : (k : ℕ) → (file_of f').kind k ≡ (file_of f).kind k
  unfolding file_of file_at
  kind_same k = ap (λ G. G.kind k) file-same
      ∙ ⊎_elim
      (λ e. subst (λ z. (node_at n (swap_at (parts_in n j) (body_of f)) z).kind ≡ (node_at n (body_of f) z).kind)
      (sym e)
      (ap (λ d. d.kind) (node_turns n (body_of f) j body-size node-there)))
      (λ e. ap (λ d. d.kind) (node_same n (body_of f) j body-size node-there k e))
      (eq_or-not k j)

  -- the exchanged file, read
  pub turns : charts? n (body_of f) ≡ false → Turned (file_of f) (file_of f')
  unfolding file_of
  turns six = turns_at six

  -- 5, of the trailer
  last-zeros : nonzero f' (end_of f' + 10) 2 ≡ nonzero f (end_of f + 10) 2
  unfolding nonzero exchange
  last-zeros = ap (λ e. any_up_to 2 (λ i. differ (get_or f' (e + 10 + i) 0) 0)) end_same
      ∙ any_cong 2 _ _ (λ i l. let e = before-end in ap (λ z. differ z 0)
      (swap_other ((end_of f - d) + parts_in n j) f (end_of f + 10 + i) (λ z. omega arith) (λ z. omega arith)))

  distance_same : distance? f' ≡ distance? f
  unfolding distance?
  distance_same = ap₂ (λ t e. differ t.distance (size_of (shape_of t)) || ltb e t.distance) trailer-same end_same

  -- 1 to 11, of refused files too: each test agrees once those before it do not apply
  pub same_refusal : refusal_of f' ≡ refusal_of f
  unfolding refusal_of file_tests
  same_refusal =
      refused_alike _ _ _ _ _ (ap (λ l. ltb l 12) length-same) (λ h1.
      refused_alike _ _ _ _ _ (ap edition? trailer-same) (λ h2.
      refused_alike _ _ _ _ _ (ap counts? trailer-same) (λ h3.
      refused_alike _ _ _ _ _ distance_same (λ h4.
      refused_alike _ _ _ _ _ (ap₂ ◌||◌ last-zeros (ap₂ (λ t b. zeros? (shape_of t) b) trailer-same body_same
      ∙ zeros-same n (body_of f) j body-size node-there)) (λ h5.
      refused_alike _ _ _ _ _
      (ap₂ (λ t b. charts? (shape_of t) b) trailer-same body_same ∙ charts-same n (body_of f) j body-size node-there)
      (λ h6.
      refused_alike _ _ _ _ _ (ap₂ (λ t b. transitions? (shape_of t) b) trailer-same body_same
      ∙ transitions_same n (body_of f) j body-size node-there h6) (λ h7.
      refused_alike _ _ _ _ _ (slaves-turned F G (turns_at h6)) (λ h8.
      refused_alike _ _ _ _ _ (nodes_turned F G (turns_at h6)) (λ h9.
      refused_alike _ _ _ _ _ (naming_turned F G (turns_at h6)) (λ h10.
      refused_alike _ _ _ _ _ (inside-turned F G (turns_at h6) (treed F h8 h9 h10)) (λ h11. refl)))))))))))
    where
      F : File
      F = file_at n (body_of f)

      G : File
      G = file_at (shape_of (trailer f')) (body_of f')

  -- what was composed is composed
  pub still_composed : (k : ℕ) → HasComposed k f → HasComposed k f'
  still_composed k g = record {
    long = subst (λ l. 12 ≤ l) (sym length-same) h.long;
    distance = distance_same ∙ h.distance;
    there = subst (λ t. k < t.nodes) (sym trailer-same) g.there;
    composed = kind_same k ∙ g.composed;
  }
