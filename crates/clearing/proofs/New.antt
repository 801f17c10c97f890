-- The cleared file of bytes that pass 1 to 11 is in order (`in_order`), and the file can be cleared (`clearable`). In
-- this order: lists; numbers of transitions; sets; all of it.
use Rattle.std.specs.Prelude.{◌≡◌, Bool, cond, length, get_or}
use Rattle.std.proofs.Common.{sym, ◌∙◌, lit<}
use Rattle.std.proofs.Math.Path.{ap, subst}
use Rattle.std.proofs.Math.Bool.{true, false}
use mathlib.Core.List.{List, [], ◌∷◌}
use Prim.Native.Nat.{ℕ, ◌+◌, ◌^◌, ◌≤◌, ◌<◌}
use native.Mathlib.Omega.{arith}
use borrow.Author.Tests.{ltb-false}
use Rattle.std.proofs.Math.Dec.{ltb}
use Rattle.std.proofs.lemmas.Nat.{xor_lt, and_le_l}
use Rattle.signals.specs.Mask.{◌∪◌, ◌∩◌, ◌∖◌}
use Rattle.signals.specs.Mask.Laws.{union_lt}
use Rattle.layout.specs.Le.{AllBytes}
use Rattle.layout.specs.Body.{size_of, head_at, transition_at, start_of, from, transitions_of}
use Rattle.layout.specs.Body.Laws.{length_from, get_or-from}
use Rattle.layout.specs.declared.body.Shape.{Shape}
use Rattle.layout.specs.declared.record.Transition.{Transition}
use Rattle.meaning.specs.Numbers.{first_edition, most_slaves, most_nodes, most_transitions, most_in_chart}
use Rattle.meaning.specs.Numbers.{most_from_state}
use Rattle.meaning.specs.Sums.{any_up_to, tally, one}
use Rattle.meaning.specs.Sums.Laws.{or_left, or_right, any-never, tally_cong}
use Rattle.meaning.specs.Meaning.{Set, same, guards}
use Rattle.meaning.specs.File.{File, end_of, trailer, body_of, shape_of, chart_of, file_at, file_of}
use Rattle.meaning.specs.Check.{differ, distance?, ends?, leaving, transitions?}
use Rattle.meaning.specs.Check.Laws.{Passed, alike, counted, charted, summed}
use Rattle.meaning.specs.Rewriting.{leaving_in, transitions_in, shape_in}
use Rattle.meaning.proofs.Rewriting.Laws.{sum_most}
use Rattle.clearing.specs.Clearing.{dead, alive, lost, cleared_chart, clear}
use Rattle.meaning.proofs.Laws.Editions.{one_stays}
use Rattle.agreement.specs.Every.{Every}
use Rattle.agreement.specs.Encoded.{no_transition, Small, Fits}
use Rattle.agreement.specs.New.{Regular}
use Rattle.agreement.specs.Step.{has}
use Rattle.agreement.specs.Calls.{regular}
use Rattle.agreement.specs.Again.{leaving_list}
use Rattle.clearing.proofs.Alive.{alive_most}
use Rattle.clearing.proofs.Result.{Clearable, slaves-cleared, nodes_cleared, naming_cleared, inside-cleared}
use Rattle.clearing.specs.InOrder.{InOrder}
use Rattle.clearing.proofs.LeftLaws.{no_more}

-- ── lists ──

module _ (fed : Set) where
  every-alive : (P : Transition → Type 0) (ts : List Transition) → Every P ts → Every P (alive fed ts)
  unfolding alive
  every-alive P [] h = tt
  every-alive P (t ∷ ts) h = go (dead fed t) (every-alive P ts h.1)
    where
      go : (b : Bool) → Every P (alive fed ts) → Every P (cond b (alive fed ts) (t ∷ alive fed ts))
      go true q = q
      go false q = (h.0, q)

  pub leaving-alive : (ts : List Transition) (s : ℕ) → leaving_in (alive fed ts) s ≤ leaving_in ts s
  unfolding alive leaving_in
  leaving-alive [] s = omega arith
  leaving-alive (t ∷ ts) s = go (dead fed t) (leaving-alive ts s)
    where
      go : (b : Bool) → leaving_in (alive fed ts) s ≤ leaving_in ts s
          → leaving_in (cond b (alive fed ts) (t ∷ alive fed ts)) s ≤ one (same t.from s) + leaving_in ts s
      go true q = omega arith
      go false q = omega arith

-- ── sets ──

guards-small : (ts : List Transition) → Every Small ts → guards ts < 2 ^ 64
unfolding guards
guards-small [] h = lit< tt
guards-small (t ∷ ts) h =
    union_lt 64 (t.needed ∪ t.barred) (guards ts) (union_lt 64 t.needed t.barred h.0.0 h.0.1)
    (guards-small ts h.1)

less_lt : (k a b : ℕ) → a < 2 ^ k → a ∖ b < 2 ^ k
less_lt k a b h = xor_lt k a (a ∩ b) h (let l = and_le_l a b in omega arith)

module _ (f : List ℕ) (ab : AllBytes f) (p : Passed f) (first : (trailer f).edition ≡ first_edition) where
  abbrev F : File
  F = file_of f

  rg : Regular F
  rg = regular f ab p first

  abbrev n : Shape
  n = shape_of (trailer f)

  abbrev b : List ℕ
  b = body_of f

  -- ── numbers of transitions ──

  list_most : (c : ℕ) → c < F.charts → length (F.chart c).transitions ≤ most_in_chart
  unfolding file_of file_at chart_of transitions_of
  list_most c l = let e = length_from (transition_at n b) (start_of n b c) (head_at n b c).transitions in
      let g = (charted n b p.charts c l).transitions in omega arith

  -- the test of 7, as a list has it
  as_listed : (c s : ℕ) → leaving n b c s (head_at n b c).transitions ≡ leaving_in (transitions_of n b c) s
  unfolding transitions_of leaving
  as_listed c s =
      tally_cong k _ (λ u. one (same (get_or ts u no_transition).from s))
      (λ u m. ap (λ t. one (same t.from s)) (sym
      (get_or-from (transition_at n b) (start_of n b c) k u no_transition m)))
      ∙ ap (λ z. tally z (λ u. one (same (get_or ts u no_transition).from s)))
      (sym (length_from (transition_at n b) (start_of n b c) k))
      ∙ leaving_list ts s
    where
      k : ℕ
      k = (head_at n b c).transitions

      ts : List Transition
      ts = from (transition_at n b) (start_of n b c) k

  leaving_most : (c s : ℕ) → c < F.charts → s < (F.chart c).states
      → leaving_in (F.chart c).transitions s ≤ most_from_state
  unfolding file_of file_at chart_of transitions?
  leaving_most c s l m = subst (λ z. z ≤ most_from_state) (as_listed c s)
      (ltb-false most_from_state _ (any-never (head_at n b c).states
      (λ s. ltb most_from_state (leaving n b c s (head_at n b c).transitions))
      (or_right (any_up_to (head_at n b c).transitions (ends? n b c)) _
      (any-never n.charts _ p.transitions c l)) s m))

  -- ── all of it ──

  new_list : (c : ℕ) → c < F.charts → length ((clear F).chart c).transitions ≤ most_in_chart
  unfolding cleared_chart
  new_list c l = let a = alive_most (F.chart c).feedback (F.chart c).transitions in let g = list_most c l in
      omega arith

  new-total : transitions_in (clear F) ≤ most_transitions
  new-total = sum_most (clear F) rg.charts new_list

  extra_small : (c : ℕ) → c < F.charts → ((clear F).chart c).extra < 2 ^ 64
  unfolding cleared_chart lost
  extra_small c l = union_lt 64 (F.chart c).extra _ (rg.feedbacks c l).1
      (less_lt 64 _ _ (guards-small (F.chart c).transitions (rg.lists c l)))

  few_slaves : F.slaves ≤ most_slaves
  unfolding file_of file_at shape_of
  few_slaves = (counted (trailer f) p.counts).slaves

  few_nodes : (0 < F.nodes) × (F.nodes ≤ most_nodes)
  unfolding file_of file_at shape_of
  few_nodes = let h = counted (trailer f) p.counts in (h.some_node, h.nodes)

  fits : Fits (clear F)
  unfolding cleared_chart shape_in
  fits = record {
    heads = λ c l. ((rg.feedbacks c l).0, extra_small c l);
    lists = λ c l. every-alive (F.chart c).feedback Small (F.chart c).transitions (rg.lists c l);
    sets = λ j l. rg.sets j l;
    size = let h = new-total in let g = few_nodes.1 in let s = few_slaves in let c = rg.charts in omega arith;
    total = let h = new-total in omega arith;
    one = λ c l. one_stays f first c;
  }

  pub in_order : InOrder (clear F)
  unfolding cleared_chart
  in_order = record {
    fits = fits;
    some_chart = rg.some_chart;
    charts = rg.charts;
    slaves = few_slaves;
    some_node = few_nodes.0;
    nodes = few_nodes.1;
    total = new-total;
    some_state = λ c l. rg.ready.some_state c l;
    states = λ c l. rg.most_states_lem c l;
    initial = λ c l. rg.initials c l;
    list = new_list;
    ends = λ c l. every-alive (F.chart c).feedback _ (F.chart c).transitions (rg.states c l);
    leaving = λ c s l m. let a = leaving-alive (F.chart c).feedback (F.chart c).transitions s in
        let g = leaving_most c s l m in omega arith;
    eight = slaves-cleared F ∙ p.slaves;
    nine = nodes_cleared F ∙ p.nodes;
    ten = naming_cleared F ∙ p.naming;
    eleven = inside-cleared F ∙ p.inside;
  }

  -- ── not longer than the file ──

  pub not_longer : size_of (shape_in (clear F)) + 12 ≤ length f
  unfolding shape_in file_of file_at distance?
  not_longer =
      let a = no_more n b (summed n b p.charts) in
      let d = alike (trailer f).distance (size_of n)
      (or_left (differ (trailer f).distance (size_of n)) (ltb (end_of f) (trailer f).distance) p.distance) in
      let e = ltb-false (end_of f) (trailer f).distance
      (or_right (differ (trailer f).distance (size_of n)) (ltb (end_of f) (trailer f).distance) p.distance) in
      let l = p.long in omega arith

  pub clearable : Clearable F
  clearable = record {
    one = one_stays f first;
    there = has F rg.ready;
    few = λ c l. let g = list_most c l in omega arith;
  }
