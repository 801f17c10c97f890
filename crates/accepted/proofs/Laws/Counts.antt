-- The numbers of the chart that an accepted file holds as typed are those of the file: its charts, nodes, slaves and
-- transitions, so 3 does not apply to it (`counts-right`), nor 6 to how many transitions a chart has (`few_lines`).
use Rattle.std.specs.Prelude.{◌≡◌, false, ◌||◌, List, [], ◌∷◌, ◌++◌, map, ℕ, zero, suc, ◌+◌, ◌≤◌, ◌<◌}
use Rattle.std.proofs.Math.Path.{refl, ap}
use Rattle.std.proofs.Common.{◌∙◌, append-nil, le-ltb, length-append}
use Rattle.std.proofs.lemmas.List.{map-append, length-map}
use native.Mathlib.Omega.{arith}
use Rattle.std.proofs.Math.Dec.{ltb}
use Rattle.std.proofs.Math.ListN.{length}
use Rattle.layout.specs.Le.{AllBytes}
use Rattle.layout.specs.Body.{transition_at, head_at, start_of, transitions_of as readTransitions}
use Rattle.layout.specs.Body.Laws.{length_from}
use Rattle.layout.specs.declared.body.Shape.{Shape}
use Rattle.meaning.specs.Numbers.{most_charts, most_slaves, most_nodes, most_transitions, most_in_chart}
use Rattle.meaning.specs.Sums.{tally}
use Rattle.meaning.specs.Meaning.{same, Tree, leaf, comp, hide, dec, nil, snoc}
use Rattle.meaning.specs.Meaning.{Slaves as Held}
use Rattle.meaning.specs.File.{File, whole_of, trailer, body_of, shape_of, chart_of, file_at, file_of}
use Rattle.meaning.specs.Laws.Alike.{accepted_node, accepted_sound}
use Rattle.meaning.specs.Check.{counts?, refusal_of}
use Rattle.meaning.specs.Check.Laws.{passed, counted, charted, summed}
use Rattle.meaning.specs.Check.Nodes.{Sound}
use Rattle.meaning.specs.Sums.Laws.{tally_ones}
use Rattle.whole.specs.Weigh.{weight, weights, of_slaves}
use Rattle.whole.specs.Weigh.{every_node, nodes_in as nodesOfTree, slaves_in as slavesOfTree}
use Rattle.whole.proofs.Laws.Whole.{whole_nodes, whole-charts, whole-slaves}
use Rattle.notation.specs.Syntax.{Chart}
use Rattle.reading.specs.Names.{any, names?}
use Rattle.reading.specs.Meant.{gathered, transitions_in, charts_of, nodes_of, slaves_of, transitions_of, trailer_for}
use Rattle.outline.specs.Tree.{nodes_in_single, nodes_in, nodes_in_slaves, slaves_in_single, slaves_in}
use Rattle.outline.specs.Tree.{slaves_in_slaves}
use Rattle.outline.specs.Laws.Filed.{nodes_filed, slaves-filed}
use Rattle.roster.specs.Laws.Sorted.{length_perm, any_perm, gathered_perm}
use Rattle.spelling.specs.Typed.{typed_of, master_of}
use Rattle.spelling.specs.Typed.{slaves_of as slavesTyped}
use Rattle.spelling.specs.Write.{chart_in}
use Rattle.spelling.proofs.Laws.Charts.{transitions_count}
use Rattle.faithful.proofs.Laws.Charts.{gathered-append, same-charts}
use Rattle.accepted.specs.Tree.{charts_in}
use Rattle.accepted.specs.Laws.Records.{slave-passes}
use Rattle.accepted.specs.Laws.Fits.{chart-fits}
use Rattle.accepted.proofs.Laws.Names.{sums, drawn, charts_are, any_typed, names-right}

-- ── nodes and slaves of a tree, typed ──

module _ (F : File) where
  mutual
    unfolding typed_of nodes_in_single weight

    typed_nodes : (p : Tree) → nodes_in (typed_of F p) ≡ nodesOfTree p
    typed_nodes (leaf c) = refl
    typed_nodes (comp p q x) = omega (arith, typed_nodes p, typed_nodes q)
    typed_nodes (hide p x y) = omega (arith, typed_nodes p)
    typed_nodes (dec c ss) = master_nodes c ss

    master_nodes : (c : ℕ) (ss : Held) → nodes_in_single (master_of F (drawn F c) ss) ≡ 1 + weights every_node ss
    master_nodes c nil = refl
    master_nodes c (snoc ss i t) = omega (arith, slaves_nodes ss (F.state i) (typed_of F t), typed_nodes t)

    slaves_nodes : (ss : Held) (q : ℕ) (u : Chart)
        → nodes_in_slaves (slavesTyped F ss q u) ≡ weights every_node ss + nodes_in u
    slaves_nodes nil q u = omega arith
    slaves_nodes (snoc ss i t) q u = omega (arith, slaves_nodes ss (F.state i) (typed_of F t), typed_nodes t)

  mutual
    unfolding typed_of slaves_in_single weight

    typed_slaves : (p : Tree) → slaves_in (typed_of F p) ≡ slavesOfTree p
    typed_slaves (leaf c) = refl
    typed_slaves (comp p q x) = omega (arith, typed_slaves p, typed_slaves q)
    typed_slaves (hide p x y) = omega (arith, typed_slaves p)
    typed_slaves (dec c ss) = omega (arith, master_slaves c ss)

    master_slaves : (c : ℕ) (ss : Held)
        → slaves_in_single (master_of F (drawn F c) ss) ≡ weights (of_slaves (λ i. 1)) ss
    master_slaves c nil = refl
    master_slaves c (snoc ss i t) = omega (arith, slaves-slaves ss (F.state i) (typed_of F t), typed_slaves t)

    slaves-slaves : (ss : Held) (q : ℕ) (u : Chart)
        → slaves_in_slaves (slavesTyped F ss q u) ≡ weights (of_slaves (λ i. 1)) ss + (slaves_in u + 1)
    slaves-slaves nil q u = omega arith
    slaves-slaves (snoc ss i t) q u = omega (arith, slaves-slaves ss (F.state i) (typed_of F t), typed_slaves t)

-- where the transitions of chart c begin, as a sum
start-sum : (n : Shape) (b : List ℕ) (c : ℕ) → tally c (λ c. length (readTransitions n b c)) ≡ start_of n b c
unfolding tally start_of readTransitions
start-sum n b zero = refl
start-sum n b (suc c) =
    let e = length_from (transition_at n b) (start_of n b c) (head_at n b c).transitions in
    omega (arith, start-sum n b c)

module _ (f : List ℕ) (bytes : AllBytes f) (ok : refusal_of f ≡ 0) where
  abbrev F : File
  F = file_of f

  abbrev t : Chart
  t = chart_in F

  -- ── what the file check gives ──

  abbrev s : Sound F
  s = accepted_sound f ok

  few : F.charts ≤ most_charts
  unfolding file_of file_at shape_of
  few = (counted (trailer f) (passed f ok).counts).charts

  pub names_typed : names? t ≡ false
  names_typed = names-right F s (accepted_node f ok) few (chart-fits f bytes ok) (λ i l. (slave-passes f ok i l).1)

  -- ── as many ──

  pub charts_typed : length (charts_of t) ≡ F.charts
  charts_typed =
      length_perm (same-charts t names_typed) ∙ ap length (charts_are F s (accepted_node f ok))
      ∙ length-map (charts_in (whole_of F)) (drawn F)
      ∙ sums length (λ c. 1) refl (λ c. refl) length-append (whole_of F)
      ∙ whole-charts F s (accepted_node f ok) (λ c. 1) ∙ tally_ones F.charts

  pub nodes_typed : length (nodes_of t) ≡ F.nodes
  nodes_typed = nodes_filed t names_typed ∙ typed_nodes F (whole_of F) ∙ whole_nodes F s (accepted_node f ok)

  pub slaves_typed : length (slaves_of t) ≡ F.slaves
  slaves_typed = slaves-filed t names_typed ∙ typed_slaves F (whole_of F) ∙ whole-slaves F s (accepted_node f ok)

  abbrev lines_of : List ℕ → ℕ
  lines_of l = length (gathered transitions_in (map (drawn F) l))

  lines_both : (l m : List ℕ) → lines_of (l ++ m) ≡ lines_of l + lines_of m
  lines_both l m =
      ap (λ k. length (gathered transitions_in k)) (map-append (drawn F) l m)
      ∙ ap length (gathered-append transitions_in (map (drawn F) l) (map (drawn F) m))
      ∙ length-append (gathered transitions_in (map (drawn F) l)) _

  lines_each : (c : ℕ) → lines_of (c ∷ []) ≡ length (F.chart c).transitions
  unfolding gathered
  lines_each c = ap length (append-nil (transitions_in (drawn F c))) ∙ transitions_count c (F.chart c)

  lines_none : lines_of [] ≡ 0
  unfolding gathered
  lines_none = refl

  lines_sum : tally F.charts (λ c. length (F.chart c).transitions) ≡ (trailer f).transitions
  unfolding file_of file_at chart_of shape_of
  lines_sum =
      start-sum (shape_of (trailer f)) (body_of f) (trailer f).charts
      ∙ summed (shape_of (trailer f)) (body_of f) (passed f ok).charts

  pub lines_typed : length (transitions_of t) ≡ (trailer f).transitions
  lines_typed =
      gathered_perm transitions_in (same-charts t names_typed)
      ∙ ap (λ k. length (gathered transitions_in k)) (charts_are F s (accepted_node f ok))
      ∙ sums lines_of (λ c. length (F.chart c).transitions) lines_none lines_each lines_both (whole_of F)
      ∙ whole-charts F s (accepted_node f ok) (λ c. length (F.chart c).transitions) ∙ lines_sum

  -- ── 3, and 6 on a chart's transitions ──

  pub counts-right : counts? (trailer_for t) ≡ false
  unfolding counts? trailer_for file_of file_at shape_of
  counts-right =
      ap (λ k. (same k 0 || ltb most_charts k) || ltb most_slaves (length (slaves_of t))
      || (same (length (nodes_of t)) 0 || ltb most_nodes (length (nodes_of t)))
      || ltb most_transitions (length (transitions_of t))) charts_typed
      ∙ ap (λ k. (same F.charts 0 || ltb most_charts F.charts) || ltb most_slaves k
      || (same (length (nodes_of t)) 0 || ltb most_nodes (length (nodes_of t)))
      || ltb most_transitions (length (transitions_of t))) slaves_typed
      ∙ ap (λ k. (same F.charts 0 || ltb most_charts F.charts) || ltb most_slaves F.slaves
      || (same k 0 || ltb most_nodes k) || ltb most_transitions (length (transitions_of t))) nodes_typed
      ∙ ap (λ k. (same F.charts 0 || ltb most_charts F.charts) || ltb most_slaves F.slaves
      || (same F.nodes 0 || ltb most_nodes F.nodes) || ltb most_transitions k) lines_typed
      ∙ (passed f ok).counts

  pub lines_few : (c : ℕ) → c < F.charts → length (F.chart c).transitions ≤ most_in_chart
  unfolding file_of file_at chart_of readTransitions
  lines_few c l =
      let n = shape_of (trailer f) in
      let b = body_of f in
      let e = length_from (transition_at n b) (start_of n b c) (head_at n b c).transitions in
      let h = (charted n b (passed f ok).charts c l).transitions in
      omega arith

  pub few_lines : any (λ u. ltb most_in_chart (length (transitions_in u))) (charts_of t) ≡ false
  few_lines =
      any_perm (λ u. ltb most_in_chart (length (transitions_in u))) (same-charts t names_typed)
      ∙ any_typed F s (accepted_node f ok) few (chart-fits f bytes ok) (λ i l. (slave-passes f ok i l).1)
      (λ u. ltb most_in_chart (length (transitions_in u)))
      (λ c l. le-ltb most_in_chart (length (transitions_in (drawn F c)))
      (let e = transitions_count c (F.chart c) in let h = lines_few c l in omega arith))
