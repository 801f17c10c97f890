-- The text of an accepted file has no more than `most_text` bytes. In this order: the text of a tree weighs no more
-- than
-- its parts do (`text_weighs`); what the parts of an accepted file weigh; all of it (`text_most`).
use Rattle.std.specs.Prelude.{◌≡◌, not, List, [], ◌∷◌, ◌++◌, map, length}
use Rattle.std.proofs.Math.Path.{refl}
use Rattle.std.proofs.Common.{ap, mul-suc}
use Prim.Native.Nat.{ℕ, zero, suc, ◌+◌, ◌*◌, ◌≤◌, ◌<◌}
use Rattle.std.proofs.Math.Nat.{le_refl}
use native.Mathlib.Omega.{arith}
use Rattle.layout.specs.Body.{head_at, transition_at, start_of, from, transitions_of}
use Rattle.layout.specs.declared.body.Shape.{Shape}
use Rattle.meaning.specs.Numbers.{most_charts, most_states, most_transitions}
use Rattle.meaning.specs.Sums.{tally}
use Rattle.meaning.specs.Sums.Laws.{or_left, or_right, or_four, any-never, tally_add, tally_scale, tally_most}
use Rattle.meaning.specs.Sums.Laws.{tally-le}
use Rattle.meaning.specs.Meaning.{Set, Tree, leaf, comp, hide, dec, nil, snoc}
use Rattle.meaning.specs.Meaning.{Slaves as Held}
use Rattle.meaning.specs.File.{File, trailer, body_of, shape_of, chart_of, file_at, file_of, whole_of}
use Rattle.meaning.specs.Check.{not_below, in_order_at, ends?, transitions?, slave?, slaves?, refusal_of}
use Rattle.meaning.specs.Check.Laws.{below, passed, counted, charted, summed}
use Rattle.meaning.specs.Laws.Alike.{accepted_node, accepted_sound}
use Rattle.notation.specs.Syntax.{Chart, single, composed}
use Rattle.notation.specs.Grammar.{lpar, rpar, lbrace, rbrace, lsq, rsq, comma, bar, wordBy, letQ, sign₁, name₁}
use Rattle.notation.specs.Grammar.{of_set, of_optional, of_transition, of_sequential, of_single, of_chart, of_part}
use Rattle.notation.specs.Grammar.{of_slaves}
use Rattle.notation.specs.Grammar.{sign_bytes, bytes_of, write}
use Rattle.whole.specs.Weigh.{Weights, weight, weights}
use Rattle.whole.proofs.Laws.Double.{of_kind}
use Rattle.whole.proofs.Laws.Whole.{part_weight, whole_weight}
use Rattle.spelling.specs.Numbers.{most_text}
use Rattle.spelling.specs.Typed.{signals_of, transition_of, sequential_of, typed_of, master_of, slaves_of}
use Rattle.spelling.specs.Write.{chart_in, text_in, text_of}
use Rattle.spelling.proofs.Laws.Sizes.{size, size_is, size_++, sum_of, with_next, name_size, name_most, set_most}
use Rattle.spelling.proofs.Laws.Sizes.{transition_most, sequential_most}

-- ── the text of a tree ──

-- a part of a composition has two bytes more at most
part-more : (t : Chart) → size (of_chart t) ≤ size (of_part t)
unfolding of_single size bytes_of sign_bytes
part-more (single t) = le_refl _
part-more (composed a x b) =
    let p = size_++ (of_part a) (sign₁ bar ++ (of_set x ++ (sign₁ bar ++ of_part b))) in
    let q = size_++ (of_set x) (sign₁ bar ++ of_part b) in
    let p' = size_++ (of_part a) (sign₁ bar ++ (of_set x ++ (sign₁ bar ++ (of_part b ++ sign₁ rpar)))) in
    let q' = size_++ (of_set x) (sign₁ bar ++ (of_part b ++ sign₁ rpar)) in
    let r = size_++ (of_part b) (sign₁ rpar) in omega arith

module _ (F : File) where
  abbrev set_size : Set → ℕ
  set_size x = size (of_set (signals_of x))

  -- what each part of a tree adds to its text; a slave, what its master's words and braces take too
  abbrev text_weights : Weights
  text_weights =
      record {
        chart = λ c. size (of_sequential (sequential_of c (F.chart c)));
        composed = λ x. 4 + set_size x;
        hiding = λ x y. 2 + set_size x + set_size y;
        slave = λ i. 11 + name_size letQ (F.state i);
      }

  mutual
    unfolding weight typed_of of_single of_optional size bytes_of sign_bytes

    text_weighs : (t : Tree) → size (of_part (typed_of F t)) ≤ weight text_weights t
    text_weighs (leaf c) = le_refl _
    text_weighs (comp p q x) =
        let a = typed_of F p in let b = typed_of F q in let hp = text_weighs p in let hq = text_weighs q in
        let e = size_++ (of_part a) (sign₁ bar ++ (of_set (signals_of x) ++ (sign₁ bar ++ (of_part b ++ sign₁ rpar))))
        in
        let g = size_++ (of_set (signals_of x)) (sign₁ bar ++ (of_part b ++ sign₁ rpar)) in
        let r = size_++ (of_part b) (sign₁ rpar) in omega arith
    text_weighs (hide p x y) =
        let h = text_weighs p in let l = part-more (typed_of F p) in
        let e =
        size_++ (of_set (signals_of x)) (sign₁ lsq ++ (of_chart (typed_of F p) ++ (sign₁ rsq ++ of_set (signals_of y))))
        in
        let g = size_++ (of_chart (typed_of F p)) (sign₁ rsq ++ of_set (signals_of y)) in omega arith
    text_weighs (dec c ss) = master_weighs c ss

    master_weighs : (c : ℕ) (ss : Held)
        → size (of_single (master_of F (sequential_of c (F.chart c)) ss))
        ≤ size (of_sequential (sequential_of c (F.chart c))) + weights text_weights ss
    master_weighs c nil = omega arith
    master_weighs c (snoc ss i t) =
        let s = sequential_of c (F.chart c) in let ps = slaves_of F ss (F.state i) (typed_of F t) in
        let h = text_weighs t in let l = part-more (typed_of F t) in
        let k = slaves_weigh ss (F.state i) (typed_of F t) in
        let e = size_++ (of_sequential s) (sign₁ wordBy ++ (sign₁ lbrace ++ (of_slaves ps ++ sign₁ rbrace))) in
        let g = size_++ (of_slaves ps) (sign₁ rbrace) in omega arith

    slaves_weigh : (ss : Held) (q : ℕ) (u : Chart)
        → size (of_slaves (slaves_of F ss q u)) ≤ weights text_weights ss + (4 + name_size letQ q + size (of_chart u))
    slaves_weigh nil q u = let e = size_++ (of_chart u) (sign₁ rpar) in omega arith
    slaves_weigh (snoc ss i t) q u =
        let h = text_weighs t in let l = part-more (typed_of F t) in
        let k = slaves_weigh ss (F.state i) (typed_of F t) in
        let ps = slaves_of F ss (F.state i) (typed_of F t) in
        let e =
        size_++ (of_slaves ps)
        (sign₁ comma ++ (sign₁ lpar ++ (name₁ letQ q ++ (sign₁ comma ++ (of_chart u ++ sign₁ rpar))))) in
        let g = size_++ (of_chart u) (sign₁ rpar) in omega arith

-- ── the parts of an accepted file ──

-- no more than m for each
sum-from : {A : Type 0} (g : A → ℕ) (f : ℕ → A) (m k n : ℕ) → ((i : ℕ) → i < n → g (f (k + i)) ≤ m)
    → sum_of g (from f k n) ≤ m * n
unfolding sum_of from
sum-from g f m k zero h = omega arith
sum-from g f m k (suc n) h =
    let a : g (f k) ≤ m = (let e : k + 0 ≡ k = omega arith in rw e at (h 0 (omega arith))) in
    let r = sum-from g f m (suc k) n (λ i l. next i (h (suc i) (omega arith))) in
    let e = mul-suc m n in omega arith
  where
    next : (i : ℕ) → g (f (k + suc i)) ≤ m → g (f (suc k + i)) ≤ m
    next i p = let e : k + suc i ≡ suc k + i = omega arith in rw e at p

sum-map : {A B : Type 0} (g : B → ℕ) (f : A → B) (l : List A) → sum_of g (map f l) ≡ sum_of (λ a. g (f a)) l
unfolding sum_of
sum-map g f [] = refl
sum-map g f (a ∷ l) = ap (λ z. g (f a) + z) (sum-map g f l)

module _ (f : List ℕ) (ok : refusal_of f ≡ 0) where
  abbrev n : Shape
  n = shape_of (trailer f)

  abbrev b : List ℕ
  b = body_of f

  abbrev F : File
  F = file_of f

  -- from and to are states of the chart
  ends : (c k : ℕ) → c < n.charts → k < (head_at n b c).transitions
      → ((transition_at n b (start_of n b c + k)).from < (head_at n b c).states)
      × ((transition_at n b (start_of n b c + k)).to < (head_at n b c).states)
  unfolding transitions? ends?
  ends c k l m =
      let q =
      any-never (head_at n b c).transitions (ends? n b c)
      (or_left _ _ (any-never n.charts _ (passed f ok).transitions c l)) k m in
      (below _ _ (or_left _ _ q), below _ _ (or_right (not_below (transition_at n b (start_of n b c + k)).from _) _ q))

  chart_most : (c : ℕ) → c < n.charts
      → size (of_sequential (sequential_of c (F.chart c))) ≤ 564 + 814 * (head_at n b c).transitions
  unfolding file_of file_at chart_of shape_of transitions_of
  chart_most c l =
      let h = charted n b (passed f ok).charts c l in let k = counted (trailer f) (passed f ok).counts in
      let s = sequential_most c (F.chart c) (omega arith) h.states h.initial in
      let e = sum-map (with_next of_transition) transition_of (transitions_of n b c) in
      let g =
      sum-from (λ t. with_next of_transition (transition_of t)) (transition_at n b) 814 (start_of n b c)
      (head_at n b c).transitions
      (λ i m. let u = ends c i l m in
      let v = transition_most (transition_at n b (start_of n b c + i)) (omega arith) (omega arith) in omega arith) in
      omega arith

  starts : (k : ℕ) → tally k (λ c. (head_at n b c).transitions) ≡ start_of n b k
  unfolding tally start_of
  starts zero = refl
  starts (suc k) = let h = starts k in omega arith

  charts_most : tally n.charts (λ c. size (of_sequential (sequential_of c (F.chart c))))
      ≤ 564 * most_charts + 814 * most_transitions
  unfolding shape_of
  charts_most =
      let k = counted (trailer f) (passed f ok).counts in
      let a =
      tally-le n.charts (λ c. size (of_sequential (sequential_of c (F.chart c))))
      (λ c. 564 + 814 * (head_at n b c).transitions) chart_most in
      let p = tally_add n.charts (λ c. 564) (λ c. 814 * (head_at n b c).transitions) in
      let q = tally_scale n.charts 814 (λ c. (head_at n b c).transitions) in
      let r = tally_most 564 n.charts (λ c. 564) (λ c _. le_refl 564) in
      let s = starts n.charts in let t = summed n b (passed f ok).charts in omega arith

  -- a slave's state is one of its master's
  state_low : (i : ℕ) → i < F.slaves → F.state i < most_states
  unfolding slaves? slave? file_of file_at chart_of
  state_low i l =
      let q =
      or_four (not_below (F.master i) F.charts) (not_below (F.state i) (F.chart (F.master i)).states)
      (not_below (F.node i) F.nodes) (not (in_order_at F i))
      (any-never F.slaves (slave? F) (passed f ok).slaves i l) in
      let m = below (F.master i) F.charts q.0 in
      let s = below (F.state i) (F.chart (F.master i)).states q.1 in
      let h = charted n b (passed f ok).charts (F.master i) m in omega arith

  slaves_most : tally F.slaves (λ i. 11 + name_size letQ (F.state i)) ≤ 14 * F.slaves
  slaves_most =
      tally_most 14 F.slaves (λ i. 11 + name_size letQ (F.state i))
      (λ i l. let h = state_low i l in let m = name_most letQ (F.state i) (omega arith) in omega arith)

  nodes_most : tally F.nodes (part_weight (text_weights F) F) ≤ 496 * F.nodes
  nodes_most = tally_most 496 F.nodes (part_weight (text_weights F) F) (λ j _. go (F.kind j) j)
    where
      go : (k j : ℕ) → of_kind k 0 (4 + set_size F (F.x j)) (2 + set_size F (F.x j) + set_size F (F.y j)) ≤ 496
      go zero j = omega arith
      go (suc zero) j = let h = set_most (F.x j) in omega arith
      go (suc (suc k)) j = let h = set_most (F.x j) in let m = set_most (F.y j) in omega arith

  -- ── all of it ──

  pub text_most : length (text_of f) ≤ most_text
  unfolding text_of text_in write file_of file_at shape_of
  text_most =
      let k = counted (trailer f) (passed f ok).counts in
      let w = whole_weight F (accepted_sound f ok) (accepted_node f ok) (text_weights F) in
      let h = text_weighs F (whole_of F) in let p = part-more (typed_of F (whole_of F)) in
      let e = size_is (of_chart (chart_in F)) in
      let c = charts_most in let s = slaves_most in let o = nodes_most in omega arith
