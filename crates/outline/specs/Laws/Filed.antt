-- The file of a chart to which 52 does not apply has as many nodes and slaves as are counted on the tree:
-- `nodes_filed`, `slaves-filed`. No slave is lost where they are sorted by chart and state, since every chart and state
-- has a name (`all_fit`).
use Rattle.std.specs.Prelude.{◌≡◌, refl, Bool, false, ◌||◌, ℕ, ◌+◌, ◌<◌, ltb, length}
use Rattle.std.proofs.Math.Path.{sym}
use Rattle.std.proofs.Common.{ap, ◌∙◌, ltb-true}
use mathlib.Core.List.{List, [], ◌∷◌, ◌++◌, map}
use Rattle.std.proofs.lemmas.Bool.{not-false}
use Rattle.layout.specs.declared.record.Slave.{Slave}
use Rattle.meaning.specs.Check.{not_below}
use Rattle.meaning.specs.Sums.Laws.{or_left, or_right}
use Rattle.notation.specs.Syntax.{Sequential, Single, sequential, decomposed, hidden, Chart, single, composed, Slaves}
use Rattle.notation.specs.Syntax.{first_slave, more_slaves}
use Rattle.reading.specs.Numbers.{named_charts, named_states}
use Rattle.reading.specs.Names.{any, set?, optional?, not_all?, twice?, left_out?, sequential?, sequentials_in}
use Rattle.reading.specs.Names.{sequentials_of, sequentials_of_slaves, parts?, name_of, names?}
use Rattle.reading.specs.Meant.{sorted_by, Placed, lay_slaves, with_node, beside, lay_hidden, lay_both, lay_single}
use Rattle.reading.specs.Meant.{lay_chart}
use Rattle.reading.specs.Meant.{placed, nodes_of, slaves_of}
use Rattle.outline.specs.Tree.{lacking, refused_single?, refused?, refused_slaves?, nodes_in, slaves_in}
use Rattle.outline.specs.Laws.Trees.{refused_is}
use Rattle.reading.specs.Laws.Lists.{any_append}
use Rattle.outline.specs.Laws.Sorted.{Each, none, more, each_append, each_sorted, each_of, length_sorted}
use Rattle.outline.specs.Laws.Laid.{has-below, laid}

-- ── every chart has a name ──

-- a chart's name is out of range
abbrev pub unnamed : Sequential → Bool
unnamed s = not_below (name_of s) named_charts

any_left : (a b : List Sequential) → any unnamed (a ++ b) ≡ false → any unnamed a ≡ false
any_left a b e = or_left (any unnamed a) (any unnamed b) (sym (any_append unnamed a b) ∙ e)

any-right : (a b : List Sequential) → any unnamed (a ++ b) ≡ false → any unnamed b ≡ false
any-right a b e = or_right (any unnamed a) (any unnamed b) (sym (any_append unnamed a b) ∙ e)

pub any-map : (p : ℕ → Bool) (l : List Sequential) → any p (map name_of l) ≡ any (λ s. p (name_of s)) l
unfolding any
any-map p [] = refl
any-map p (s ∷ l) = ap (p (name_of s) ||◌) (any-map p l)

-- ── every slave has a chart and a state ──

pub record Fits (s : Slave) : Type 0 where
  pub chart : s.chart < named_charts
  pub state : s.state < named_states

-- a slave of a master, wherever its nodes stand
pub record Owned (p : Placed) : Type 0 where
  pub at : p.at < named_states
  pub slaves : (k : ℕ) → Each Fits (p.part k).slaves

slaves_fit : (c : ℕ) → c < named_charts → (l : List Placed) → Each Owned l → (k : ℕ)
    → Each Fits (lay_slaves c l k).slaves
unfolding lay_slaves
slaves_fit c n [] e k = none
slaves_fit c n (s ∷ l) (more p e) k =
    each_append (p.slaves k)
    (more (record { chart = n; state = p.at }) (slaves_fit c n l e (k + length (s.part k).nodes)))

mutual
  unfolding lay_single refused_single? sequentials_in any with_node beside lay_hidden lay_both

  single-fits : (s : Single) → refused_single? s ≡ false → any unnamed (sequentials_in s) ≡ false → (k : ℕ)
      → Each Fits (lay_single s k).slaves
  single-fits (sequential s) e n k = none
  single-fits (decomposed s ps) e n k =
      let f = or_left (sequential? s) (refused_slaves? (lacking s) ps) e in
      let g = or_right (sequential? s) (refused_slaves? (lacking s) ps) e in
      let c = ltb-true (name_of s) named_charts
      (not-false (ltb (name_of s) named_charts) (or_left (unnamed s) (any unnamed (sequentials_of_slaves ps)) n)) in
      let l = owned (lacking s) (has-below s f) ps g
      (or_right (unnamed s) (any unnamed (sequentials_of_slaves ps)) n) in
      slaves_fit (name_of s) c (sorted_by (λ p. p.at) named_states (placed ps))
      (each_sorted (λ p. p.at) named_states (placed ps) l) k
  single-fits (hidden x t y) e n k =
      chart-fits t (or_left (refused? t) (optional? y) (or_right (optional? x) (refused? t || optional? y) e)) n k

  chart-fits : (t : Chart) → refused? t ≡ false → any unnamed (sequentials_of t) ≡ false → (k : ℕ)
      → Each Fits (lay_chart t k).slaves
  chart-fits (single s) e n k = single-fits s e n k
  chart-fits (composed a x b) e n k =
      each_append
      (chart-fits a (or_left (refused? a) (set? x || refused? b) e)
      (any_left (sequentials_of a) (sequentials_of b) n) k)
      (chart-fits b (or_right (set? x) (refused? b) (or_right (refused? a) (set? x || refused? b) e))
      (any-right (sequentials_of a) (sequentials_of b) n) (k + length (lay_chart a k).nodes))

  owned : (lacks : ℕ → Bool) → ((q : ℕ) → lacks q ≡ false → q < named_states) → (ps : Slaves)
      → refused_slaves? lacks ps ≡ false → any unnamed (sequentials_of_slaves ps) ≡ false → Each Owned (placed ps)
  owned lacks h (first_slave q t) e n =
      more
      (record {
        at = h q (or_left (lacks q) (refused? t) e);
        slaves = λ k. chart-fits t (or_right (lacks q) (refused? t) e) n k;
      })
      none
  owned lacks h (more_slaves ps q t) e n =
      let g = or_right (refused_slaves? lacks ps) (lacks q || refused? t) e in
      let m = any-right (sequentials_of_slaves ps) (sequentials_of t) n in
      each_append
      (owned lacks h ps (or_left (refused_slaves? lacks ps) (lacks q || refused? t) e)
      (any_left (sequentials_of_slaves ps) (sequentials_of t) n))
      (more
      (record {
        at = h q (or_left (lacks q) (refused? t) g);
        slaves = λ k. chart-fits t (or_right (lacks q) (refused? t) g) m k;
      })
      none)

-- ── the file ──

module _ (t : Chart) (e : names? t ≡ false) where
  pub not_refused : refused? t ≡ false
  unfolding names?
  not_refused =
      refused_is t
      ∙ or_right (not_all? named_charts (map name_of (sequentials_of t)))
      (any sequential? (sequentials_of t) || parts? t) e

  all_named : any unnamed (sequentials_of t) ≡ false
  unfolding names? not_all?
  all_named =
      let l = map name_of (sequentials_of t) in
      sym (any-map (λ n. not_below n named_charts) (sequentials_of t))
      ∙ or_left (any (λ n. not_below n named_charts) l) (twice? l || left_out? l)
      (or_left (not_all? named_charts l) (any sequential? (sequentials_of t) || parts? t) e)

  pub all_fit : Each Fits (lay_chart t 0).slaves
  all_fit = chart-fits t not_refused all_named 0

  pub nodes_filed : length (nodes_of t) ≡ nodes_in t
  nodes_filed = (laid t not_refused 0).nodes

  -- the slaves before they are sorted
  pub slaves-met : length (lay_chart t 0).slaves ≡ slaves_in t
  slaves-met = (laid t not_refused 0).slaves

  pub slaves-filed : length (slaves_of t) ≡ slaves_in t
  slaves-filed =
      let l = (lay_chart t 0).slaves in
      let f = all_fit in
      length_sorted (λ s. s.chart) named_charts (sorted_by (λ s. s.state) named_states l)
      (each_sorted (λ s. s.state) named_states l (each_of (λ s g. g.chart) f))
      ∙ length_sorted (λ s. s.state) named_states l (each_of (λ s g. g.state) f) ∙ slaves-met
