-- The rewritten file in bytes passes 1 to 11, if the file does and 40 to 44 do not apply; and what is read of it is the
-- rewritten file.
use Rattle.std.specs.Prelude.{◌≡◌, true, ◌&&◌, ◌||◌, not, cond, get_or, drop}
use Rattle.std.proofs.Math.Path.{refl, sym, ap, ap₂, subst}
use Rattle.std.proofs.Common.{◌∙◌, arith, le-ltb, get_or-drop}
use Rattle.std.proofs.Math.Bool.{Bool, false}
use mathlib.Core.List.{List, [], ◌∷◌, ◌++◌, append-nil}
use Prim.Native.Nat.{ℕ, zero, suc, ◌+◌, ◌*◌, ◌-◌, ◌≤◌, ◌<◌}
use Rattle.std.proofs.Math.Dec.{ltb}
use Rattle.std.proofs.Math.ListN.{length, get_or-append}
use Rattle.layout.specs.Le.{bytes}
use Rattle.layout.specs.Record.{trailer_bytes, head_bytes, transition_bytes, slave_bytes, node_bytes}
use Rattle.layout.specs.Record.Laws.{length-trailer, length-head, length-transition, length_node}
use Rattle.layout.specs.Body.{transitions_from, nodes_from, size_of, head_at, transition_at, node_at, start_of}
use Rattle.layout.specs.declared.body.Shape.{Shape}
use Rattle.layout.specs.declared.record.Trailer.{Trailer}
use Rattle.layout.specs.declared.record.Head.{Head}
use Rattle.layout.specs.declared.record.Transition.{Transition}
use Rattle.layout.specs.declared.record.Slave.{Slave}
use Rattle.layout.specs.declared.record.Node.{Node}
use Rattle.meaning.specs.Numbers.{first_edition, most_charts, most_slaves, most_nodes, most_transitions, most_states}
use Rattle.meaning.specs.Numbers.{most_in_chart, most_from_state}
use Rattle.meaning.specs.Sums.{any_up_to, tally, one}
use Rattle.meaning.specs.Sums.Laws.{any-all, any-never, tally_cong, tally-front}
use Rattle.meaning.specs.Meaning.{same}
use Rattle.meaning.specs.File.{File, end_of, trailer, body_of, shape_of, file_at, file_of}
use Rattle.meaning.specs.Check.{edition?, differ, not_below, counts?, distance?, nonzero, zeros?, chart?, charts?}
use Rattle.meaning.specs.Check.{ends?}
use Rattle.meaning.specs.Check.{leaving, transitions?, slaves?, node_of_kind?, nodes?, names, named, holds, held}
use Rattle.meaning.specs.Check.{naming?}
use Rattle.meaning.specs.Check.{inside?, refusal_of}
use Rattle.meaning.specs.Rewriting.{chart_with, rewritten_chart, rewrite, leaving_in, transitions_in, no_free?}
use Rattle.meaning.specs.Rewriting.{from_state?}
use Rattle.meaning.specs.Rewriting.{in_chart?, head_for, shape_in, body_bytes, encode}
use Rattle.meaning.proofs.Rewriting.Laws.{list_most, sum_most}
use Rattle.meaning.specs.Laws.Bools.{and_l, and_r, same_refl, same→≡, same_≢, same→≢}
use Rattle.meaning.specs.Laws.Trees.{Ordered}
use Rattle.meaning.specs.Laws.Names.{Rule10}
use Rattle.agreement.specs.Every.{every-at}
use Rattle.agreement.specs.Laid.{ordered_r, start_mono, start_suc}
use Rattle.agreement.specs.Recheck.{rule10_r}
use Rattle.agreement.specs.Step.{Rewritten}
use Rattle.agreement.specs.Encoded.{no_transition, Fits, node_in, head_there, some_transition_there, node-there}
use Rattle.agreement.specs.Encoded.{head_is, start_is, transition_is, node_is, chart-back, trailer_for}
use Rattle.agreement.specs.Encoded.{length-encode, end_is, trailer_there, trailer_is, body_is, shape_is, file_is}
use Rattle.agreement.specs.Recovered.{reads_back, tree_same}
use Rattle.meaning.specs.Check.Laws.{Passed, neither, is_below}
use Rattle.agreement.specs.Passed.{passes}
use Rattle.agreement.specs.New.{Regular, Formed, new_smalls, new-states, formed}

-- 40 to 44 do not apply
pub record Given (F : File) : Type 0 where
  pub room : no_free? F ≡ false
  pub leaving : from_state? (rewrite F) ≡ false
  pub lists : in_chart? (rewrite F) ≡ false
  pub nodes : (rewrite F).nodes ≤ most_nodes

-- ── a test that is false ──

pub equal : (m k : ℕ) → m ≡ k → differ m k ≡ false
equal m k e = ap (λ z. differ z k) e ∙ ap not (same_refl k)

pub there : (m : ℕ) → 0 < m → same m 0 ≡ false
there m l = same_≢ m 0 (λ e. omega arith)

-- ── zero bytes ──

pub head_zero : (h : Head) (i : ℕ) → i < 5 → get_or (head_bytes h) (3 + i) 0 ≡ 0
unfolding head_bytes
head_zero h zero l = refl
head_zero h (suc zero) l = refl
head_zero h (suc (suc zero)) l = refl
head_zero h (suc (suc (suc zero))) l = refl
head_zero h (suc (suc (suc (suc zero)))) l = refl
head_zero h (suc (suc (suc (suc (suc i))))) l = absurd (omega arith)

pub transition_zero : (t : Transition) (i : ℕ) → i < 2 → get_or (transition_bytes t) (2 + i) 0 ≡ 0
unfolding transition_bytes
transition_zero t zero l = refl
transition_zero t (suc zero) l = refl
transition_zero t (suc (suc i)) l = absurd (omega arith)

pub slave_zero : (d : Slave) (i : ℕ) → i < 1 → get_or (slave_bytes d) (3 + i) 0 ≡ 0
unfolding slave_bytes
slave_zero d zero l = refl
slave_zero d (suc i) l = absurd (omega arith)

pub node_zero : (d : Node) (i : ℕ) → i < 1 → get_or (node_bytes d) (3 + i) 0 ≡ 0
unfolding node_bytes
node_zero d zero l = refl
node_zero d (suc i) l = absurd (omega arith)

pub trailer_zero : (t : Trailer) (i : ℕ) → i < 2 → get_or (trailer_bytes t) (10 + i) 0 ≡ 0
unfolding trailer_bytes bytes
trailer_zero t zero l = refl
trailer_zero t (suc zero) l = refl
trailer_zero t (suc (suc i)) l = absurd (omega arith)

-- the zero bytes of a record that stands at a place
pub zeros-at : (s xs r : List ℕ) (at k m : ℕ) → drop at s ≡ xs ++ r → k + m ≤ length xs
    → ((i : ℕ) → i < m → get_or xs (k + i) 0 ≡ 0)
    → nonzero s (at + k) m ≡ false
unfolding nonzero
zeros-at s xs r at k m e l h = any-all m (λ i. differ (get_or s (at + k + i) 0) 0)
    (λ i q. equal (get_or s (at + k + i) 0) 0
    (ap (λ z. get_or s z 0) (let z : at + k + i ≡ at + (k + i) = omega arith in z) ∙ sym (get_or-drop at s (k + i) 0)
    ∙ ap (λ z. get_or z (k + i) 0) e
    ∙ get_or-append xs r 0 (k + i) (omega arith) ∙ h i q))

-- ── how many transitions leave a state ──

pub leaving_list : (ts : List Transition) (s : ℕ)
    → tally (length ts) (λ u. one (same (get_or ts u no_transition).from s)) ≡ leaving_in ts s
unfolding leaving_in tally
leaving_list [] s = refl
leaving_list (t ∷ ts) s = tally-front (length ts) (λ u. one (same (get_or (t ∷ ts) u no_transition).from s))
    ∙ ap (λ z. one (same t.from s) + z) (leaving_list ts s)

-- ── a file that meets what 10 says ──

pub naming_is : (F : File) → Rule10 F → naming? F ≡ false
unfolding naming?
naming_is F r = neither _ _ (neither _ _ (any-all F.charts _ (λ c l. equal (held F c) 1 (r.once c l)))
    (any-all F.nodes _ (λ j l. equal (named F j) _ (due j l (same (suc j) F.nodes) refl))))
    (any-all F.slaves _ (λ i l. any-all F.nodes _ (λ j m. higher i j l m (holds F j (F.master i)) refl)))
  where
    due : (j : ℕ) → j < F.nodes → (d : Bool) → same (suc j) F.nodes ≡ d → named F j ≡ cond d 0 1
    due j l true e = r.named-last j (same→≡ (suc j) F.nodes e)
    due j l false e = r.named_once j (let z = same→≢ (suc j) F.nodes e in omega (arith, z))

    higher : (i j : ℕ) → i < F.slaves → j < F.nodes → (d : Bool) → holds F j (F.master i) ≡ d
        → (d && not_below (F.node i) j) ≡ false
    higher i j l m true e =
        let k = same→≡ (F.kind j) 0 (and_l _ _ e) in
        let a = same→≡ (F.a j) (F.master i) (and_r (same (F.kind j) 0) _ e) in
        is_below (F.node i) j (r.master_higher i j l m k a)
    higher i j l m false e = refl

module _ (F : File) (rg : Regular F) (gv : Given F) where
  abbrev R : File
  R = rewrite F

  abbrev n : Shape
  n = shape_in R

  abbrev b : List ℕ
  b = body_bytes R

  -- what 3 asks of the sum: 42 gives it
  total : transitions_in R ≤ most_transitions
  total = sum_most R rg.charts (list_most R gv.lists)

  pub fits : Fits R
  unfolding rewritten_chart chart_with shape_in
  fits = record {
    heads = λ c l. rg.feedbacks c l;
    lists = λ c l. new_smalls F rg gv.room c l;
    sets = λ j l. let h = formed F rg gv.room j l in (h.x-small, h.y_small);
    size = let h = total in let g = gv.nodes in let c = rg.charts in omega arith;
    total = let h = total in omega arith;
    one = λ c l. rg.ready.one c l;
  }

  w : Ordered R
  w = ordered_r F rg.ready.sound.ordered

  r10 : Rule10 R
  r10 = rule10_r F rg.ready.sound.ordered rg.ready.sound.rule10 rg.ready.sound.node-there

  pub some_node : 0 < R.nodes
  some_node = let a = start_mono F F.nodes 1 rg.ready.some_node in let z = start_suc F 0 in omega arith

  -- ── 1 to 5 ──

  counts : counts? (trailer (encode R)) ≡ false
  unfolding counts?
  counts = ap counts? (trailer_is R fits)
      ∙ neither _ _ (neither _ _
      (neither _ _ (neither _ _ (there F.charts rg.some_chart) (le-ltb most_charts F.charts rg.charts))
      (le-ltb most_slaves 0 (omega arith)))
      (neither _ _ (there R.nodes some_node) (le-ltb most_nodes R.nodes gv.nodes)))
      (le-ltb most_transitions (transitions_in R) total)

  distance : distance? (encode R) ≡ false
  unfolding distance?
  distance = neither _ _ (equal _ _ (ap (λ t. t.distance) (trailer_is R fits) ∙ ap size_of (sym (shape_is R fits))))
      (le-ltb (end_of (encode R)) (trailer (encode R)).distance
      (let e = end_is R in let d : (trailer (encode R)).distance ≡ size_of (shape_in R) =
      ap (λ t. t.distance) (trailer_is R fits) in omega arith))

  zeros : (nonzero (encode R) (end_of (encode R) + 10) 2 || zeros? (shape_of (trailer (encode R))) (body_of (encode R)))
      ≡ false
  unfolding zeros? shape_in
  zeros = neither _ _
      (zeros-at (encode R) (trailer_bytes t) [] (end_of (encode R)) 10 2
      (trailer_there R ∙ sym (append-nil (trailer_bytes t)))
      (let e = length-trailer t in omega arith) (trailer_zero t))
      (ap₂ zeros? (shape_is R fits) (body_is R fits)
      ∙ neither _ _ (neither _ _ (neither _ _
      (any-all R.charts _ (λ c l. let u = head_there R c l in
      zeros-at b (head_bytes (head_for (R.chart c))) u.0 (24 * c) 3 5 u.1
      (let e = length-head (head_for (R.chart c)) in omega arith)
      (head_zero (head_for (R.chart c)))))
      (any-all (transitions_in R) _ (λ k l. let u = some_transition_there R k l in
      zeros-at b (transition_bytes u.0) u.1 (transitions_from n + 28 * k) 2 2 u.2
      (let e = length-transition u.0 in omega arith)
      (transition_zero u.0))))
      (any-all 0 _ (λ i l. absurd (omega arith))))
      (any-all R.nodes _ (λ j l. let u = node-there R j l in
      zeros-at b (node_bytes (node_in R j)) u.0 (nodes_from n + 20 * j) 3 1 u.1
      (let e = length_node (node_in R j) in omega arith)
      (node_zero (node_in R j)))))
    where
      t : Trailer
      t = trailer_for R

  -- ── 6 and 7 ──

  charts : charts? n b ≡ false
  unfolding charts? chart? shape_in head_for rewritten_chart chart_with transitions_in in_chart?
  charts = neither _ _ (any-all R.charts (chart? n b) (λ c l. ap form (head_is R fits c l)
      ∙ neither _ _ (neither _ _ (neither _ _ (there (F.chart c).states (rg.ready.some_state c l))
      (le-ltb most_states (F.chart c).states (rg.most_states_lem c l)))
      (is_below (F.chart c).initial (F.chart c).states (rg.initials c l)))
      (any-never R.charts (λ c. ltb most_in_chart (length (R.chart c).transitions)) gv.lists c l)))
      (equal _ _ (start_is R fits R.charts (omega arith)))
    where
      form : Head → Bool
      form h = (same h.states 0 || ltb most_states h.states) || not_below h.initial h.states
          || ltb most_in_chart h.transitions

  states_stay : (c : ℕ) → (R.chart c).states ≡ (F.chart c).states
  unfolding rewritten_chart chart_with
  states_stay c = refl

  transitions : transitions? n b ≡ false
  unfolding transitions? ends? leaving shape_in from_state? head_for
  transitions = any-all R.charts _ (λ c l. neither _ _
      (any-all (head_at n b c).transitions (ends? n b c) (λ k m. let m' = subst (λ z. k < z) (count c l) m in
      ap₂ (λ t s. not_below t.from s || not_below t.to s) (transition_is R fits c k l m') (states c l)
      ∙ (let h = every-at (λ t. (t.from < (F.chart c).states) × (t.to < (F.chart c).states))
      (R.chart c).transitions k no_transition m'
      (new-states F rg gv.room c l) in
      neither _ _ (is_below _ _ h.0) (is_below _ _ h.1))))
      (any-all (head_at n b c).states _ (λ s m. ap (ltb most_from_state) (leaves c l s)
      ∙ any-never (R.chart c).states
      (λ s. ltb most_from_state (leaving_in (R.chart c).transitions s)) (any-never R.charts _ gv.leaving c l) s
      (subst (λ z. s < z) (ap (λ h. h.states) (head_is R fits c l)) m))))
    where
      count : (c : ℕ) → c < R.charts → (head_at n b c).transitions ≡ length (R.chart c).transitions
      count c l = ap (λ h. h.transitions) (head_is R fits c l)

      states : (c : ℕ) → c < R.charts → (head_at n b c).states ≡ (F.chart c).states
      states c l = ap (λ h. h.states) (head_is R fits c l) ∙ states_stay c

      leaves : (c : ℕ) → c < R.charts → (s : ℕ)
          → tally (head_at n b c).transitions (λ u. one (same (transition_at n b (start_of n b c + u)).from s))
          ≡ leaving_in (R.chart c).transitions s
      leaves c l s = ap (λ k. tally k (λ u. one (same (transition_at n b (start_of n b c + u)).from s))) (count c l)
          ∙ tally_cong (length (R.chart c).transitions) _
          (λ u. one (same (get_or (R.chart c).transitions u no_transition).from s))
          (λ u m. ap (λ t. one (same t.from s)) (transition_is R fits c u l m))
          ∙ leaving_list (R.chart c).transitions s

  -- ── 8 to 11 ──

  abbrev G : File
  G = file_at n b

  slaves : slaves? G ≡ false
  unfolding slaves? file_at shape_in any_up_to
  slaves = refl

  -- what is known of a new node
  abbrev pub Known : ℕ → Node → Type 0
  Known j d = Formed F rg gv.room d × (d.kind ≡ 1 → (d.a < j) × (d.b < j)) × (d.kind ≡ 2 → d.a < j)

  pub known : (j : ℕ) → j < R.nodes → Known j (node_at n b j)
  known j l = subst (Known j) (sym (node_is R fits j l)) (formed F rg gv.room j l, w.lower₁ j l, w.lower₂ j l)

  nodes : nodes? G ≡ false
  unfolding nodes? file_at shape_in node_of_kind?
  nodes = any-all R.nodes _ (λ j l. go j (node_at n b j).kind refl (known j l))
    where
      go : (j k : ℕ) → (node_at n b j).kind ≡ k → Known j (node_at n b j) → node_of_kind? G k j ≡ false
      go j zero e h = let u = h.0.held e in
          neither _ _ (neither _ _ (neither _ _ (is_below _ _ u.0) (equal _ _ u.1)) (equal _ _ u.2))
          (equal _ _ u.3)
      go j (suc zero) e h = let u = h.1 e in
          neither _ _ (neither _ _ (is_below _ _ u.0) (is_below _ _ u.1)) (equal _ _ (h.0.both e))
      go j (suc (suc zero)) e h = neither _ _ (is_below _ _ (h.2 e)) (equal _ _ (h.0.hidden e))
      go j (suc (suc (suc k))) e h = absurd (let u = h.0.kind in omega arith)

  held_same : (c : ℕ) → held G c ≡ held R c
  unfolding held file_at shape_in
  held_same c =
      tally_cong R.nodes _ _ (λ k l. ap (λ d. one (same d.kind 0 && same d.a c)) (node_is R fits k l))

  named-same : (j : ℕ) → named G j ≡ named R j
  unfolding named names file_at shape_in tally
  named-same j = ap (λ z. 0 + z) (tally_cong R.nodes _ _
      (λ k l. ap (λ d. one (same d.kind 1 && same d.a j) + one (same d.kind 1 && same d.b j)
      + one (same d.kind 2 && same d.a j))
      (node_is R fits k l)))

  naming : naming? G ≡ false
  unfolding file_at shape_in
  naming = naming_is G (record {
    once = λ c l. held_same c ∙ r10.once c l;
    named_once = λ j l. named-same j ∙ r10.named_once j l;
    named-last = λ j e. named-same j ∙ r10.named-last j e;
    master_higher = λ i j l m k e. absurd (omega arith);
  })

  inside : inside? G ≡ false
  unfolding inside? file_at shape_in any_up_to
  inside = refl

  -- ── all of it ──

  pub again : Passed (encode R)
  again = record {
    long = let e = length-encode R in omega arith;
    edition = ap edition? (trailer_is R fits) ∙ unfold edition? in rw (equal 1 first_edition refl);
    counts = counts;
    distance = distance;
    zeros = zeros;
    charts = ap₂ charts? (shape_is R fits) (body_is R fits) ∙ charts;
    transitions = ap₂ transitions? (shape_is R fits) (body_is R fits) ∙ transitions;
    slaves = ap slaves? (file_is R fits) ∙ slaves;
    nodes = ap nodes? (file_is R fits) ∙ nodes;
    naming = ap naming? (file_is R fits) ∙ naming;
    inside = ap inside? (file_is R fits) ∙ inside;
  }

  pub new-passes : refusal_of (encode R) ≡ 0
  new-passes = passes (encode R) again

  -- what is read of the new bytes is the rewritten file
  pub new_reads : Rewritten F (file_of (encode R))
  unfolding file_at shape_in
  new_reads = subst (Rewritten F) (sym (file_is R fits)) (record {
    charts = refl;
    chart = λ c l. chart-back R fits c l;
    whole = tree_same R G (reads_back R fits) w (R.nodes - 1) (let h = some_node in omega arith);
  })

  -- it has no slaves (RULES 9.5)
  pub new-slaves : (file_of (encode R)).slaves ≡ 0
  unfolding file_at shape_in
  new-slaves = ap (λ G. G.slaves) (file_is R fits)
