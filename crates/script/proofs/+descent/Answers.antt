-- What a function of the tree writes follows by a law from what those that it calls write (proofs/Laws.antt).
use mathlib.Core.Path.{◌≡◌, refl, sym, ap, ◌∙◌}
use native.Mathlib.Numerals.{add-one}
use native.Mathlib.Omega.{arith}
use Rattle.layout.specs.Kind.{byte_of}
use Rattle.meaning.specs.File.{file_at}
use Rattle.notation.specs.Grammar.{lpar, rpar, bar, comma, lbrace, rbrace, lsq, rsq, letQ, sign_bytes, letter}
use Rattle.printing.specs.Separated.{in_turn}
use Rattle.printing.specs.Laws.Prints.{prints_append}
use Rattle.printing.specs.Laws.Separated.{in_turn-none, adds_none, adds_one}
use Rattle.script.specs.Tree.{text_by, slave_text}
use Rattle.script.proofs.Laws.{prints_by, adds-by, part-composed, part-single, composed_text, hidden_text_lem}
use Rattle.script.proofs.Laws.{slaves_solid, slaves-none, slaves-more, master_some, master_none, chart-none}
use Rattle.script.proofs.Laws.{node_chart, node_composed, node_hidden, chart_there, both_there, inside_there, some_kind}
use Rattle.script.proofs.Laws.{slave-other, slave-own, slave_text_lem, node-there}
use Rattle.script.proofs.+descent.Goals as goal

-- ── chart ──

pub chart-returns-then-left-eq0 : goal.chart-returns-then-left-eq0
chart-returns-then-left-eq0 t c = prints_by (chart-none _ _ _ c.if-left-eq0.true) c.sequential.ensures

pub chart-of-requires : goal.chart-of-requires
chart-of-requires t c = some_kind _ _ _ _ c.node_at-node.ensures c.requires.0 c.requires.1

pub chart-master-requires : goal.chart-master-requires
chart-master-requires t c =
    let some = c.if-left-eq0.false in (
      omega (arith, c.decreases),
      (
        c.requires.0,
        chart_there _ _ _ _ c.node_at-node.ensures c.requires.0 c.requires.1 (sym c.of.ensures ∙ ap byte_of c.in-Holds.is),
      ),
    )

pub chart-returns-in-Holds : goal.chart-returns-in-Holds
chart-returns-in-Holds t c =
    prints_by
    (ap (text_by _)
    (node_chart _ _ _ _ c.node_at-node.ensures _ c.if-left-eq0.false (sym c.of.ensures ∙ ap byte_of c.in-Holds.is)))
    c.master.ensures

pub chart-pair-requires : goal.chart-pair-requires
chart-pair-requires t c =
    let some = c.if-left-eq0.false in
    let q = both_there _ _ _ _ c.node_at-node.ensures c.requires.0 c.requires.1 (sym c.of.ensures ∙ ap byte_of c.in-Composes.is) in
    (omega (arith, c.decreases), (c.requires.0, q.0, q.1))

pub chart-returns-in-Composes : goal.chart-returns-in-Composes
chart-returns-in-Composes t c =
    prints_by
    (ap (text_by _)
    (node_composed _ _ _ _ c.node_at-node.ensures _ c.if-left-eq0.false (sym c.of.ensures ∙ ap byte_of c.in-Composes.is)))
    c.pair.ensures

pub chart-hidden-requires : goal.chart-hidden-requires
chart-hidden-requires t c =
    let some = c.if-left-eq0.false in (
      omega (arith, c.decreases),
      (
        c.requires.0,
        inside_there _ _ _ _ c.node_at-node.ensures c.requires.0 c.requires.1 (sym c.of.ensures ∙ ap byte_of c.in-Hides.is),
      ),
    )

pub chart-returns-in-Hides : goal.chart-returns-in-Hides
chart-returns-in-Hides t c =
    prints_by
    (ap (text_by _)
    (node_hidden _ _ _ _ c.node_at-node.ensures _ c.if-left-eq0.false (sym c.of.ensures ∙ ap byte_of c.in-Hides.is)))
    c.hidden.ensures

-- ── hidden ──

pub hidden-returns : goal.hidden-returns
unfolding sign_bytes
hidden-returns t c =
    prints_by (hidden_text_lem _ _ _ _)
    (prints_append c.set-open.ensures
    (prints_append (c.sign-inside.ensures lsq refl)
    (prints_append c.chart-close.ensures
    (prints_append (c.sign-outputs.ensures rsq refl)
    c.set.ensures))))

-- ── master ──

pub master-returns-then-decomposes : goal.master-returns-then-decomposes
unfolding sign_bytes
master-returns-then-decomposes t c =
    prints_by (master_some _ _ _ _ (sym c.decomposes.ensures ∙ c.if-decomposes.true))
    (prints_append c.dec-chart.ensures
    (prints_append c.sequential-by.ensures
    (prints_append c.by-brace.ensures
    (prints_append (c.sign-first.ensures lbrace refl)
    (prints_append c.slaves-end.ensures
    (c.sign.ensures rbrace refl))))))

pub master-returns : goal.master-returns
master-returns t c =
    prints_by (master_none _ _ _ (sym c.decomposes.ensures ∙ c.if-decomposes.false)) c.sequential.ensures

-- ── pair ──

pub pair-returns : goal.pair-returns
unfolding sign_bytes
pair-returns t c =
    prints_by (composed_text _ _ _ _)
    (prints_append c.part-bar.ensures
    (prints_append (c.sign-feedback.ensures bar refl)
    (prints_append c.set-behind.ensures
    (prints_append (c.sign-next.ensures bar refl)
    c.part.ensures))))

-- ── part ──

pub part-returns-then-composes : goal.part-returns-then-composes
unfolding sign_bytes
part-returns-then-composes t c =
    prints_by (part-composed _ _ (sym c.composes.ensures ∙ c.if-composes.true))
    (prints_append (c.sign-inside.ensures lpar refl)
    (prints_append c.chart-end.ensures
    (c.sign.ensures rpar refl)))

pub part-returns : goal.part-returns
part-returns t c =
    prints_by (part-single _ _ (sym c.composes.ensures ∙ c.if-composes.false)) c.chart.ensures

-- ── slave ──

pub slave-returns-then-s-list : goal.slave-returns-then-s-list
slave-returns-then-s-list t c =
    adds-by (slave-other _ _ _ _ c.slave_at-s.ensures _ _ c.if-s-list.true) adds_none

pub slave-chart-end-requires : goal.slave-chart-end-requires
slave-chart-end-requires t c = (
  omega (arith, c.decreases),
  (c.requires.0, node-there _ _ _ _ c.slave_at-s.ensures c.requires.0 c.requires.1),
)

pub slave-returns : goal.slave-returns
unfolding sign_bytes letter
slave-returns t c =
    adds-by (slave-own _ _ _ _ c.slave_at-s.ensures _ _ c.if-s-list.false)
    (adds_one (slaves_solid _) _ refl c.apart-open.ensures
    (prints_by (slave_text_lem _ _ _ _ c.slave_at-s.ensures _)
    (prints_append (c.sign-state.ensures lpar refl)
    (prints_append (c.name-behind.ensures letQ refl)
    (prints_append (c.sign-inside.ensures comma refl)
    (prints_append c.chart-end.ensures
    (c.sign.ensures rpar refl)))))))

-- ── slaves ──

pub slaves-loop-i-init : goal.slaves-loop-i-init
slaves-loop-i-init t c = (omega arith, refl, rw slaves-none (in_turn-none comma (slave_text _) _ _))

pub slaves-loop-i-preserved : goal.slaves-loop-i-preserved
slaves-loop-i-preserved t c = (
  omega arith,
  c.slave-at.auto.out ∙ c.loop-i.invariant.1,
  rw add-one
      (prints_by (ap (in_turn comma (slave_text _)) (slaves-more _ _ _ _))
      (c.slave-at.ensures.adds _ _ c.loop-i.invariant.2)),
)

pub slaves-returns : goal.slaves-returns
unfolding file_at
slaves-returns t c =
    let e : c.loop-i.i ≡ c.args.n.slaves = omega arith in
    rw e at c.loop-i.invariant.2
