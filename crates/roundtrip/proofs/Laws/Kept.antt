-- Files with the same charts, slaves and tree (`SameCharts`) are answered alike (`same_alike`), and the chart that they
-- hold is typed in the same way (`same_typed`).
use Rattle.std.specs.Prelude.{◌≡◌, refl, ℕ, ◌<◌}
use Rattle.std.proofs.Common.{sym, ap, ap₂, ◌∙◌, subst}
use Rattle.std.proofs.Math.Option.{some}
use Rattle.meaning.specs.Meaning.{Set, Tree, leaf, comp, hide, dec, nil, snoc}
use Rattle.meaning.specs.Meaning.{Slaves as Held}
use Rattle.meaning.specs.File.{File, whole_of}
use Rattle.meaning.specs.Check.Nodes.{Sound}
use Rattle.notation.specs.Syntax.{Sequential, sequential, decomposed, hidden, Chart, single, composed}
use Rattle.notation.specs.Syntax.{more_slaves}
use Rattle.propositions.specs.Exchange.Trees.{Exchanged, Slaved, chart, parts, inside, master, none, more}
use Rattle.propositions.proofs.Exchange.Answers.{TreesAlike}
use Rattle.whole.specs.Weigh.{fed_in}
use Rattle.whole.proofs.Laws.Whole.{whole_fed}
use Rattle.spelling.specs.Typed.{sequential_of, typed_of, master_of, slaves_of, signals_of}
use Rattle.spelling.specs.Write.{chart_in}
use Rattle.roundtrip.specs.Same.{SameCharts}
use Rattle.roundtrip.specs.Laws.Proper.{Proper, ProperAll}

module _ (F G : File) (S : Set → Type 0) (r : SameCharts F G) where
  -- ── answers ──

  mutual
    tree_kept : (T : Tree) → Proper F S T → Exchanged F.chart G.chart F.state G.state T T
    tree_kept (leaf c) h = chart (r.chart c h)
    tree_kept (comp p q x) h = parts (tree_kept p h.1) (tree_kept q h.2)
    tree_kept (hide p x y) h = inside (tree_kept p h.2)
    tree_kept (dec c ss) h = master (r.chart c h.0) (slaves_kept c ss h.2)

    slaves_kept : (c : ℕ) (ss : Held) → ProperAll F S c ss
        → Slaved F.chart G.chart F.state G.state ss ss
    slaves_kept c nil h = none
    slaves_kept c (snoc ss i t) h = more (slaves_kept c ss h.0) (r.state i h.2) (tree_kept t h.4)

  pub same_alike : Proper F S (whole_of F) → Sound F → 0 < F.nodes → Sound G → 0 < G.nodes → TreesAlike F G
  same_alike h s n s' n' =
      record {
        charts = r.charts;
        chart = r.chart;
        whole =
            subst (Exchanged F.chart G.chart F.state G.state (whole_of F)) (sym r.tree)
            (tree_kept (whole_of F) h);
        fed = sym (whole_fed G s' n') ∙ ap fed_in r.tree ∙ whole_fed F s n;
      }

  -- ── the chart as typed ──

  mutual
    unfolding typed_of

    tree_typed : (T : Tree) → Proper F S T → typed_of G T ≡ typed_of F T
    tree_typed (leaf c) h = ap (λ C. single (sequential (sequential_of c C))) (r.chart c h)
    tree_typed (comp p q x) h =
        ap₂ (λ t u. composed t (signals_of x) u) (tree_typed p h.1) (tree_typed q h.2)
    tree_typed (hide p x y) h =
        ap (λ t. single (hidden (some (signals_of x)) t (some (signals_of y)))) (tree_typed p h.2)
    tree_typed (dec c ss) h =
        ap (λ C. single (master_of G (sequential_of c C) ss)) (r.chart c h.0)
        ∙ ap single (master_typed (sequential_of c (F.chart c)) c ss h.2)

    master_typed : (s : Sequential) (c : ℕ) (ss : Held) → ProperAll F S c ss → master_of G s ss ≡ master_of F s ss
    master_typed s c nil h = refl
    master_typed s c (snoc ss i t) h =
        ap (decomposed s)
        (ap₂ (slaves_of G ss) (r.state i h.2) (tree_typed t h.4)
        ∙ slaves_typed c ss h.0 (F.state i) (typed_of F t))

    slaves_typed : (c : ℕ) (ss : Held) → ProperAll F S c ss → (q : ℕ) (u : Chart)
        → slaves_of G ss q u ≡ slaves_of F ss q u
    slaves_typed c nil h q u = refl
    slaves_typed c (snoc ss i t) h q u =
        ap (λ ps. more_slaves ps q u)
        (ap₂ (slaves_of G ss) (r.state i h.2) (tree_typed t h.4)
        ∙ slaves_typed c ss h.0 (F.state i) (typed_of F t))

  pub same_typed : Proper F S (whole_of F) → chart_in G ≡ chart_in F
  same_typed h = ap (typed_of G) r.tree ∙ tree_typed (whole_of F) h
