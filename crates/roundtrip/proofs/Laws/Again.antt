-- The file of a chart, written and read again, is the same file (`file_again`): its charts come by their numbers
-- (`parts_in_order`), so their records and transitions are the same bytes; nodes and slaves are laid down as they were.
use Rattle.std.specs.Prelude.{◌≡◌, refl, false, ℕ, suc, ◌+◌}
use Rattle.std.proofs.Common.{sym, ◌∙◌, subst, arith, length-append}
use Rattle.std.proofs.Math.Path.{ap, ap₂}
use mathlib.Core.List.{List, [], ◌∷◌, ◌++◌, map, Memᴰ}
use Rattle.std.proofs.Math.ListN.{length, length-map}
use Rattle.layout.specs.Le.{AllBytes}
use Rattle.layout.specs.Record.{head_bytes, transition_bytes, slave_bytes, node_bytes, trailer_bytes}
use Rattle.layout.specs.Body.{from}
use Rattle.layout.specs.declared.record.Head.{Head}
use Rattle.layout.specs.declared.record.Trailer.{Trailer}
use Rattle.layout.specs.declared.record.Transition.{Transition as Record}
use Rattle.meaning.specs.Numbers.{first_edition}
use Rattle.meaning.specs.Meaning.{Set, Chart as Part}
use Rattle.meaning.specs.File.{File, trailer, whole_of, file_of}
use Rattle.meaning.specs.Check.{counts?, refusal_of}
use Rattle.meaning.specs.Check.Laws.{passed, counted}
use Rattle.agreement.specs.Calls.{regular}
use Rattle.notation.specs.Syntax.{Sequential, Chart}
use Rattle.reading.specs.Names.{name_of, names?}
use Rattle.reading.specs.Meant.{all, gathered, transition_for, transitions_in, head_for, charts_of, lay_chart}
use Rattle.reading.specs.Meant.{slaves_of}
use Rattle.reading.specs.Meant.{set_of, optional_of, nodes_of, transitions_of, body_for, trailer_for, file_for}
use Rattle.reading.specs.Laws.Body.{heads_for, lines_for, slaves_for, nodes_for, body_for_lem}
use Rattle.reading.specs.Laws.Lists.{all_append}
use Rattle.roster.specs.Laws.Sorted.{InOrder, length_perm}
use Rattle.spelling.specs.Write.{chart_in}
use Rattle.faithful.specs.Faithful.{ChartIs}
use Rattle.faithful.specs.Laws.Back.{trailer-back_is}
use Rattle.faithful.proofs.Laws.Charts.{mem_perm, same-charts, in_order, charts_typed}
use Rattle.faithful.proofs.Laws.Tree.{filed}
use Rattle.faithful.proofs.Laws.Theorems.{tree_typed}
use Rattle.accepted.proofs.Laws.Counts.{names_typed, counts-right}
use Rattle.roundtrip.specs.Same.{SameCharts}
use Rattle.roundtrip.specs.Laws.Proper.{tidy, whole_proper, InRange}
use Rattle.roundtrip.proofs.Laws.Back.{same-charts as same-file}
use Rattle.roundtrip.specs.Laws.Bytes.{line, file-bytes}
use Rattle.roundtrip.specs.Laws.Relaid.{relaid}

-- ── a chart's bytes ──

-- its record and its transitions
abbrev Written : Type 0
Written = Head × List Record

abbrev written_for : Sequential → Written
written_for s = (head_for s, map transition_for (transitions_in s))

abbrev head : ℕ → ℕ → ℕ → Set → Set → Head
head m q n x y = record { states = m; initial = q; transitions = n; feedback = x; extra = y }

abbrev written_of : Part → Written
written_of C = (head C.states C.initial (length C.transitions) C.feedback C.extra, C.transitions)

written_is : (C : Part) (s : Sequential) → ChartIs C s → written_for s ≡ written_of C
unfolding head_for
written_is C s h =
    let x = set_of s.heading.feedback in
    let y = optional_of s.extra in
    let ts = map transition_for (transitions_in s) in
    let n = sym (length-map (transitions_in s) transition_for) ∙ ap length (sym h.transitions) in
    ap₂ (λ m q. (head m q (length (transitions_in s)) x y, ts)) (sym h.states) (sym h.initial)
    ∙ ap₂ (λ k us. (head C.states C.initial k x y, us)) n (sym h.transitions)
    ∙ ap₂ (λ v w. (head C.states C.initial (length C.transitions) v w, C.transitions)) (sym h.feedback)
    (sym h.extra)

-- charts that come by their numbers, k the first
parts_in_order : (E : ℕ → Part) (k : ℕ) (l : List Sequential) → InOrder name_of k l
    → ((s : Sequential) → Memᴰ s l → ChartIs (E (name_of s)) s)
    → map written_for l ≡ from (λ c. written_of (E c)) k (length l)
unfolding InOrder from
parts_in_order E k [] o h = refl
parts_in_order E k (s ∷ l) o h =
    ap₂ ◌∷◌ (written_is (E (name_of s)) s (h s (Memᴰ.head refl)) ∙ ap (λ c. written_of (E c)) o.0)
    (parts_in_order E (suc k) l o.1 (λ u w. h u (Memᴰ.tail w)))

-- ── the bytes of charts ──

all_map : {A B : Type 0} (g : B → List ℕ) (h : A → B) (l : List A) → all g (map h l) ≡ all (λ a. g (h a)) l
unfolding all
all_map g h [] = refl
all_map g h (a ∷ l) = ap (g (h a) ++◌) (all_map g h l)

abbrev lines_in : List Written → List Record
lines_in = gathered (λ d. d.1)

lines_map : (l : List Sequential)
    → (all line (gathered transitions_in l) ≡ all transition_bytes (lines_in (map written_for l)))
    × (length (gathered transitions_in l) ≡ length (lines_in (map written_for l)))
unfolding gathered all
lines_map [] = (refl, refl)
lines_map (s ∷ l) =
    let r = lines_map l in
    let us = transitions_in s in (
      all_append line us (gathered transitions_in l)
          ∙ ap₂ ◌++◌ (sym (all_map transition_bytes transition_for us)) r.0
          ∙ sym (all_append transition_bytes (map transition_for us) (lines_in (map written_for l))),
      length-append us (gathered transitions_in l)
          ∙ ap₂ ◌+◌ (sym (length-map us transition_for)) r.1
          ∙ sym (length-append (map transition_for us) (lines_in (map written_for l))),
    )

-- ── the file ──

module _ (t : Chart) (n : names? t ≡ false) (c : counts? (trailer_for t) ≡ false)
    (p : refusal_of (file_for t) ≡ 0) where
  abbrev f : List ℕ
  f = file_for t

  abbrev F : File
  F = file_of f

  -- the chart that it holds
  abbrev u : Chart
  u = chart_in F

  bytes : AllBytes f
  bytes = file-bytes t n c p

  one : (trailer f).edition ≡ first_edition
  unfolding trailer_for
  one = ap (λ r. r.edition) (trailer-back_is t (counted (trailer_for t) c))

  n' : names? u ≡ false
  n' = names_typed f bytes p

  c' : counts? (trailer_for u) ≡ false
  c' = counts-right f bytes p

  same : SameCharts F (file_of (file_for u))
  same = same-file f bytes p one

  -- charts
  written : map written_for (charts_of u) ≡ map written_for (charts_of t)
  written =
      parts_in_order F.chart 0 (charts_of u) (in_order u n') after
      ∙ ap (from (λ d. written_of (F.chart d)) 0) as_many
      ∙ sym (parts_in_order F.chart 0 (charts_of t) (in_order t n) before)
    where
      before : (s : Sequential) → Memᴰ s (charts_of t) → ChartIs (F.chart (name_of s)) s
      before s w = ((charts_typed t n c).each s (mem_perm (same-charts t n) w)).1

      after : (s : Sequential) → Memᴰ s (charts_of u) → ChartIs (F.chart (name_of s)) s
      after s w =
          let r = (charts_typed u n' c').each s (mem_perm (same-charts u n') w) in
          let l = r.0 in let e = same.charts in
          subst (λ C. ChartIs C s) (same.chart (name_of s) (omega arith)) r.1

      as_many : length (charts_of u) ≡ length (charts_of t)
      as_many =
          length_perm (same-charts u n') ∙ sym (charts_typed u n' c').charts ∙ same.charts
          ∙ (charts_typed t n c).charts ∙ sym (length_perm (same-charts t n))

  heads : heads_for u ≡ heads_for t
  heads =
      sym (all_map (λ d. head_bytes d.0) written_for (charts_of u)) ∙ ap (all (λ d. head_bytes d.0)) written
      ∙ all_map (λ d. head_bytes d.0) written_for (charts_of t)

  lines : (lines_for u ≡ lines_for t) × (length (transitions_of u) ≡ length (transitions_of t))
  lines =
      let a = lines_map (charts_of u) in let b = lines_map (charts_of t) in (
        a.0 ∙ ap (λ l. all transition_bytes (lines_in l)) written ∙ sym b.0,
        a.1 ∙ ap (λ l. length (lines_in l)) written ∙ sym b.1,
      )

  -- nodes and slaves
  laid : lay_chart u 0 ≡ lay_chart t 0
  laid =
      let d = tidy f p InRange (regular f bytes (passed f p) one).sets in
      relaid F d.states (whole_of F) (whole_proper F InRange d) t (tree_typed t n c p) 0

  body : body_for u ≡ body_for t
  body =
      body_for_lem u
      ∙ ap₂ (λ a b. a ++ (b ++ (slaves_for u ++ nodes_for u))) heads lines.0
      ∙ ap (λ l. heads_for t ++ (lines_for t ++ (all slave_bytes (filed l.slaves) ++ all node_bytes l.nodes))) laid
      ∙ sym (body_for_lem t)

  -- the trailer
  abbrev trailer_with : ℕ → ℕ → ℕ → ℕ → ℕ → Trailer
  trailer_with d m s k l =
      record { distance = d; charts = m; slaves = s; nodes = k; edition = first_edition; transitions = l }

  last : trailer_for u ≡ trailer_for t
  unfolding trailer_for
  last =
      ap₂ (λ b w. trailer_with (length b) w (length (slaves_of u)) (length (nodes_of u)) (length (transitions_of u)))
      body
      (sym (length-map (charts_of u) written_for) ∙ ap length written ∙ length-map (charts_of t) written_for)
      ∙ ap₂
      (λ l k. trailer_with (length (body_for t)) (length (charts_of t)) (length (filed l.slaves)) (length l.nodes) k)
      laid lines.1

  pub file_again : file_for (chart_in (file_of (file_for t))) ≡ file_for t
  unfolding file_for
  file_again = ap₂ (λ b r. b ++ trailer_bytes r) body last
