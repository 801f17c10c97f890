-- Counts that are cut at a limit still answer tests below it (`cut-test`, `cut-none`), and are the counts themselves
-- where they pass (`cut_is`); so 3 is tested on cut counts (`counts_shape`), and a shape that passes is the file's
-- (`shape_is`).
use Rattle.std.proofs.Math.Path.{◌≡◌}
use Rattle.std.specs.Prelude.{true, false, ◌||◌, cond, ℕ, ◌≤◌, ◌<◌, length}
use Rattle.std.proofs.Common.{sym, ap, ◌∙◌, ⊎_elim, arith, lt-ltb, le-ltb, ltb-true, ltb-false}
use Rattle.std.proofs.Math.Dec.{ltb}
use Rattle.layout.specs.declared.body.Shape.{Shape}
use Rattle.meaning.specs.Numbers.{first_edition, most_charts, most_slaves, most_nodes, most_transitions}
use Rattle.meaning.specs.Sums.Laws.{or_right, or_four}
use Rattle.meaning.specs.Meaning.{same}
use Rattle.meaning.specs.Laws.Bools.{same_≢}
use Rattle.meaning.specs.File.{shape_of}
use Rattle.meaning.specs.Check.{counts?}
use Rattle.meaning.specs.Check.Laws.{decided}
use Rattle.notation.specs.Syntax.{Chart}
use Rattle.reading.specs.Meant.{charts_of, transitions_of, slaves_of, nodes_of, trailer_for}
use Rattle.tokens.specs.Tokens.{cap}
use Rattle.roster.specs.Roster.{cut}
use Rattle.texts.specs.Shapes.{over?}
use Rattle.texts.specs.Laws.Parts.{shape_for}

-- ── a number cut at a limit ──

module _ (limit n : ℕ) where
  abbrev cut_at : ℕ
  cut_at = cond (ltb n limit) n limit

  cut_low : n < limit → cut_at ≡ n
  cut_low h = rw (lt-ltb n limit h)

  cut_high : limit ≤ n → cut_at ≡ limit
  cut_high h = rw (le-ltb n limit h)

  cut-test : (k : ℕ) → k < limit → ltb k cut_at ≡ ltb k n
  cut-test k h =
      ⊎_elim
      (λ (e : ltb n limit ≡ true). ap (ltb k) (cut_low (ltb-true n limit e)))
      (λ (e : ltb n limit ≡ false).
      let l = ltb-false n limit e in
      ap (ltb k) (cut_high l) ∙ lt-ltb k limit h ∙ sym (lt-ltb k n (omega arith)))
      (decided (ltb n limit))

  cut-none : 0 < limit → same cut_at 0 ≡ same n 0
  cut-none h =
      ⊎_elim
      (λ (e : ltb n limit ≡ true). ap (λ k. same k 0) (cut_low (ltb-true n limit e)))
      (λ (e : ltb n limit ≡ false).
      let l = ltb-false n limit e in
      ap (λ k. same k 0) (cut_high l) ∙ same_≢ limit 0 (λ z. omega arith) ∙ sym (same_≢ n 0 (λ z. omega arith)))
      (decided (ltb n limit))

  cut_is : (k : ℕ) → k < limit → ltb k cut_at ≡ false → cut_at ≡ n
  cut_is k h e =
      let l = ltb-false k n (sym (cut-test k h) ∙ e) in
      cut_low (omega arith)

-- ── the shape as it is counted ──

-- the counts of m are those of the file that t means, some of them cut
pub record Counted (m : Shape) (t : Chart) : Type 0 where
  pub charts : m.charts ≡ length (charts_of t)
  pub transitions : m.transitions ≡ cut (length (transitions_of t))
  pub slaves : m.slaves ≡ cap (length (slaves_of t))
  pub nodes : m.nodes ≡ cap (length (nodes_of t))
  pub edition : m.edition ≡ first_edition

module _ (m : Shape) (t : Chart) (h : Counted m t) where
  pub counts_shape : over? m ≡ counts? (trailer_for t)
  unfolding over? counts? trailer_for cap cut
  counts_shape =
      rw (
        h.charts,
        h.transitions,
        h.slaves,
        h.nodes,
        cut-test 1000 (length (slaves_of t)) most_slaves (omega arith),
        cut-none 1000 (length (nodes_of t)) (omega arith),
        cut-test 1000 (length (nodes_of t)) most_nodes (omega arith),
        cut-test 65535 (length (transitions_of t)) most_transitions (omega arith),
      )

  -- where 3 does not apply, no count is cut
  pub shape_is : over? m ≡ false → m ≡ shape_for t
  unfolding over? shape_of trailer_for cap cut
  shape_is e =
      let none = same m.nodes 0 in
      let p = or_four (same m.charts 0 || ltb most_charts m.charts) (ltb most_slaves m.slaves)
      (none || ltb most_nodes m.nodes)
      (ltb most_transitions m.transitions) e in
      let s = h.slaves ∙ cut_is 1000 (length (slaves_of t)) most_slaves (omega arith)
      (ap (ltb most_slaves) (sym h.slaves) ∙ p.1) in
      let n = h.nodes ∙ cut_is 1000 (length (nodes_of t)) most_nodes (omega arith)
      (ap (ltb most_nodes) (sym h.nodes) ∙ or_right none (ltb most_nodes m.nodes) p.2) in
      let u = h.transitions ∙ cut_is 65535 (length (transitions_of t)) most_transitions (omega arith)
      (ap (ltb most_transitions) (sym h.transitions) ∙ p.3) in
      alike h.charts u s n h.edition
    where
      alike : {c u s n e c' u' s' n' e' : ℕ} → c ≡ c' → u ≡ u' → s ≡ s' → n ≡ n' → e ≡ e'
          → ◌≡◌ {A = Shape} (record { charts = c; transitions = u; slaves = s; nodes = n; edition = e })
          (record { charts = c'; transitions = u'; slaves = s'; nodes = n'; edition = e' })
      alike a b c d e = rw (a, b, c, d, e)
