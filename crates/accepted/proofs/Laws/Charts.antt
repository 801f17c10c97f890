-- Two bodies with the same charts: 6 and 7 apply to both or to neither (`charts-same`, `transitions_same`). The file of
-- what is typed for an accepted file of edition 1 has the same charts (`chart-back`), so 6 and 7 do not apply to it
-- (`charts_pass`, `transitions_pass`).
use Rattle.std.specs.Prelude.{◌≡◌, Bool, false}
use Rattle.std.proofs.Math.Path.{refl, sym, ap, ap₂}
use Rattle.std.proofs.Common.{◌∙◌, subst, ⊎_elim, arith}
use Rattle.std.proofs.Math.Bool.{◌||◌}
use mathlib.Core.List.Memᴰ
use mathlib.Core.List.{List, [], ◌∷◌, map, Memᴰ}
use Prim.Native.Nat.{ℕ, zero, suc, ◌+◌, ◌≤◌, ◌<◌}
use Rattle.std.proofs.Math.Dec.{ltb}
use Rattle.std.proofs.Math.ListN.{length, get_or}
use Rattle.layout.specs.Le.{AllBytes}
use Rattle.layout.specs.Body.{head_at, transition_at, start_of, transitions_of}
use Rattle.layout.specs.Body.Laws.{length_from, get_or-from}
use Rattle.layout.specs.declared.body.Shape.{Shape}
use Rattle.layout.specs.declared.record.Transition.{Transition as Record}
use Rattle.meaning.specs.Numbers.{first_edition, most_from_state}
use Rattle.meaning.specs.Sums.{any_up_to, tally, one}
use Rattle.meaning.specs.Sums.Laws.{any_cong, tally_cong}
use Rattle.meaning.specs.Meaning.{Set, same}
use Rattle.meaning.specs.Meaning.{Chart as Part}
use Rattle.meaning.specs.File.{File, whole_of, trailer, body_of, shape_of, chart_of, file_at, file_of}
use Rattle.meaning.proofs.Laws.Editions.{one_stays}
use Rattle.meaning.specs.Laws.Alike.{accepted_node, accepted_sound}
use Rattle.meaning.specs.Check.{not_below, differ, chart?, charts?, in_chart, ends?, leaving, transitions?, refusal_of}
use Rattle.meaning.specs.Check.Laws.{passed, counted}
use Rattle.notation.specs.Syntax.{Sequential, Chart}
use Rattle.reading.specs.Names.{name_of}
use Rattle.reading.specs.Meant.{body_for, trailer_for}
use Rattle.spelling.specs.Write.{chart_in}
use Rattle.spelling.proofs.Laws.Charts.{name_written}
use Rattle.faithful.specs.Faithful.{ChartIs, ChartsTyped}
use Rattle.faithful.specs.Laws.Back.{shape_for, file-back}
use Rattle.faithful.proofs.Laws.Charts.{charts_typed as read-charts}
use Rattle.accepted.specs.Tree.{charts_in}
use Rattle.accepted.specs.Laws.Fits.{chart-fits, chart-written}
use Rattle.accepted.proofs.Laws.Names.{drawn, charts_are}
use Rattle.accepted.proofs.Laws.Counts.{names_typed, charts_typed, lines_typed, counts-right}

-- ── two bodies with the same charts ──

module _ (n m : Shape) (b d : List ℕ) (as_many : n.charts ≡ m.charts)
    (same-charts : (c : ℕ) → c < n.charts → chart_of n b c ≡ chart_of m d c) where
  module _ (c : ℕ) (l : c < n.charts) where
    states : (head_at n b c).states ≡ (head_at m d c).states
    unfolding chart_of
    states = ap (λ C. C.states) (same-charts c l)

    initial : (head_at n b c).initial ≡ (head_at m d c).initial
    unfolding chart_of
    initial = ap (λ C. C.initial) (same-charts c l)

    lines : transitions_of n b c ≡ transitions_of m d c
    unfolding chart_of
    lines = ap (λ C. C.transitions) (same-charts c l)

    count : (head_at n b c).transitions ≡ (head_at m d c).transitions
    unfolding transitions_of
    count =
        sym (length_from (transition_at n b) (start_of n b c) (head_at n b c).transitions)
        ∙ ap length lines ∙ length_from (transition_at m d) (start_of m d c) (head_at m d c).transitions

    -- 6
    chart-same : chart? n b c ≡ chart? m d c
    unfolding chart?
    chart-same = rw (states, initial, count)

    -- 7
    line_same : (i : ℕ) → i < (head_at n b c).transitions → in_chart n b c i ≡ in_chart m d c i
    unfolding transitions_of
    line_same i h =
        let z = transition_at n b 0 in
        sym (get_or-from (transition_at n b) (start_of n b c) (head_at n b c).transitions i z h)
        ∙ ap (λ l. get_or l i z) lines
        ∙ get_or-from (transition_at m d) (start_of m d c) (head_at m d c).transitions i z (subst (i <◌) count h)

    ends_same : any_up_to (head_at n b c).transitions (ends? n b c)
        ≡ any_up_to (head_at m d c).transitions (ends? m d c)
    unfolding ends?
    ends_same =
        any_cong (head_at n b c).transitions (ends? n b c) (ends? m d c)
        (λ i h. ap₂ (λ t k. not_below t.from k || not_below t.to k) (line_same i h) states)
        ∙ ap (λ k. any_up_to k (ends? m d c)) count

    leaving-same : (q : ℕ) → leaving n b c q (head_at n b c).transitions ≡ leaving m d c q (head_at m d c).transitions
    unfolding leaving
    leaving-same q =
        tally_cong (head_at n b c).transitions (λ u. one (same (in_chart n b c u).from q))
        (λ u. one (same (in_chart m d c u).from q)) (λ i h. ap (λ t. one (same t.from q)) (line_same i h))
        ∙ ap (λ k. tally k (λ u. one (same (in_chart m d c u).from q))) count

    -- more than 8 leave state q
    abbrev many : Shape → List ℕ → ℕ → Bool
    many n b q = ltb most_from_state (leaving n b c q (head_at n b c).transitions)

    both-same : (any_up_to (head_at n b c).transitions (ends? n b c) || any_up_to (head_at n b c).states (many n b))
        ≡ (any_up_to (head_at m d c).transitions (ends? m d c) || any_up_to (head_at m d c).states (many m d))
    both-same =
        ap₂ ◌||◌ ends_same
        (any_cong (head_at n b c).states (many n b) (many m d) (λ q h. ap (ltb most_from_state) (leaving-same q))
        ∙ ap (λ k. any_up_to k (many m d)) states)

  starts : (c : ℕ) → c ≤ n.charts → start_of n b c ≡ start_of m d c
  unfolding start_of
  starts zero l = refl
  starts (suc c) l = ap₂ ◌+◌ (starts c (omega arith)) (count c (omega arith))

  pub charts-same : n.transitions ≡ m.transitions → charts? n b ≡ charts? m d
  unfolding charts?
  charts-same e =
      ap₂ ◌||◌
      (any_cong n.charts (chart? n b) (chart? m d) chart-same ∙ ap (λ j. any_up_to j (chart? m d)) as_many)
      (ap₂ differ (starts n.charts (omega arith) ∙ ap (start_of m d) as_many) e)

  pub transitions_same : transitions? n b ≡ transitions? m d
  unfolding transitions?
  transitions_same =
      any_cong n.charts
      (λ c. any_up_to (head_at n b c).transitions (ends? n b c) || any_up_to (head_at n b c).states
      (λ q. ltb most_from_state (leaving n b c q (head_at n b c).transitions)))
      (λ c. any_up_to (head_at m d c).transitions (ends? m d c) || any_up_to (head_at m d c).states
      (λ q. ltb most_from_state (leaving m d c q (head_at m d c).transitions))) both-same
      ∙ ap
      (λ j. any_up_to j (λ c. any_up_to (head_at m d c).transitions (ends? m d c) || any_up_to (head_at m d c).states
      (λ q. ltb most_from_state (leaving m d c q (head_at m d c).transitions)))) as_many

-- ── charts typed ──

-- what a sequential chart is, is one chart
pub chart-same_as : (C D : Part) (s : Sequential) → ChartIs C s → ChartIs D s → C ≡ D
chart-same_as C D s g h =
    ap₂ (λ m q. made m q C.transitions C.feedback C.extra C.stays) (g.states ∙ sym h.states)
    (g.initial ∙ sym h.initial)
    ∙ ap₂ (λ ts x. made D.states D.initial ts x C.extra C.stays) (g.transitions ∙ sym h.transitions)
    (g.feedback ∙ sym h.feedback)
    ∙ ap₂ (made D.states D.initial D.transitions D.feedback) (g.extra ∙ sym h.extra)
    (g.stays ∙ sym h.stays)
  where
    made : ℕ → ℕ → List Record → Set → Set → Bool → Part
    made m q ts x y w =
        record { states = m; initial = q; transitions = ts; feedback = x; extra = y; stays = w }

-- a chart that is typed for a file is typed for the chart of its name
mem_drawn : (F : File) (s : Sequential) (l : List ℕ) → Memᴰ s (map (drawn F) l) → s ≡ drawn F (name_of s)
mem_drawn F s [] h = absurd (Memᴰ.not-nil h)
mem_drawn F s (c ∷ l) h =
    ⊎_elim (λ e. e ∙ ap (drawn F) (sym (ap name_of e ∙ name_written c (F.chart c)))) (mem_drawn F s l)
    (Memᴰ.cases_cons h)

module _ (f : List ℕ) (bytes : AllBytes f) (ok : refusal_of f ≡ 0) (one : (trailer f).edition ≡ first_edition) where
  abbrev F : File
  F = file_of f

  abbrev t : Chart
  t = chart_in F

  body-charts : ChartsTyped (file_at (shape_for t) (body_for t)) t
  body-charts =
      subst (λ G. ChartsTyped G t) (file-back t (counted (trailer_for t) (counts-right f bytes ok)))
      (read-charts t (names_typed f bytes ok) (counts-right f bytes ok))

  -- the chart that is typed for chart c is what the file read has for it
  body-chart : (c : ℕ) → c < (file_at (shape_for t) (body_for t)).charts
      → ChartIs ((file_at (shape_for t) (body_for t)).chart c) (drawn F c)
  body-chart c l =
      let a = body-charts.all c l in
      let e = mem_drawn F a.0 (charts_in (whole_of F))
      (subst (Memᴰ a.0) (charts_are F (accepted_sound f ok) (accepted_node f ok)) a.1) in
      subst (λ d. ChartIs ((file_at (shape_for t) (body_for t)).chart d) (drawn F d)) a.2
      (subst (ChartIs ((file_at (shape_for t) (body_for t)).chart (name_of a.0))) e (body-charts.each a.0 a.1).1)

  pub chart-back : (c : ℕ) → c < F.charts → chart_of (shape_for t) (body_for t) c ≡ F.chart c
  unfolding file_at trailer_for shape_of
  chart-back c l =
      chart-same_as (chart_of (shape_for t) (body_for t) c) (F.chart c) (drawn F c)
      (body-chart c (let e = charts_typed f bytes ok in omega arith))
      (chart-written c (F.chart c) (chart-fits f bytes ok c l) (one_stays f one c))

  back : (c : ℕ) → c < (shape_for t).charts
      → chart_of (shape_for t) (body_for t) c ≡ chart_of (shape_of (trailer f)) (body_of f) c
  unfolding file_of file_at trailer_for shape_of
  back c l = chart-back c (let e = charts_typed f bytes ok in omega arith)

  pub charts_pass : charts? (shape_for t) (body_for t) ≡ false
  unfolding file_of file_at trailer_for shape_of
  charts_pass =
      charts-same (shape_for t) (shape_of (trailer f)) (body_for t) (body_of f) (charts_typed f bytes ok) back
      (lines_typed f bytes ok)
      ∙ (passed f ok).charts

  pub transitions_pass : transitions? (shape_for t) (body_for t) ≡ false
  unfolding file_of file_at trailer_for shape_of
  transitions_pass =
      transitions_same (shape_for t) (shape_of (trailer f)) (body_for t) (body_of f) (charts_typed f bytes ok) back
      ∙ (passed f ok).transitions
