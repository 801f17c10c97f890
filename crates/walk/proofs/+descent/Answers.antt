-- The walk meets its contracts. What each function lays down follows by a law from what those that it calls lay down
-- (specs/Laws/Walk.antt, specs/Laws/Slaves.antt).
use Rattle.std.proofs.Common.{refl, sym, ◌∙◌, arith}
use Rattle.tokens.specs.Laws.Steps.{peek_some}
use Rattle.walk.specs.Laws.Walk.{alone, both-laid, hidden_laid, bracketed_laid, part_none, part_sequential}
use Rattle.walk.specs.Laws.Walk.{part_decomposed, part_hidden, part_bracketed}
use Rattle.walk.specs.Laws.Slaves.{pair_other, pair_own, along_none, along_more, state_laid}
use Rattle.walk.specs.Laws.Slaves.{states-none, states-more, slaves-laid, master_laid}
use Rattle.walk.proofs.+descent.Goals as goal

-- ── bracketed ──

pub bracketed-returns : goal.bracketed-returns
bracketed-returns t c =
    bracketed_laid _ _ _ _ _ _ _ _ c.behind_sign.ensures c.chart-c.ensures
    c.behind_sign-2.ensures

-- ── chart ──

pub chart-returns-then-peek-ne124 : goal.chart-returns-then-peek-ne124
chart-returns-then-peek-ne124 t c =
    alone _ _ _ _ _ _ c.part-p.ensures
    (λ e. c.if-peek-ne124.true (c.peek.ensures ∙ e))

pub chart-returns : goal.chart-returns
chart-returns t c =
    both-laid _ _ _ _ _ _ c.part-p.ensures (sym c.peek.ensures ∙ c.if-peek-ne124.false)
    _ _ _ _ _ _ _ c.behind_sign.ensures c.set-x.ensures c.behind_sign-2.ensures
    c.part-q.ensures _ _ c.one_less.ensures c.one_less-2.ensures
    (c.add_node.ensures _)

-- ── hidden ──

pub hidden-returns : goal.hidden-returns
hidden-returns t c =
    hidden_laid _ _ _ _ _ _ _ _ _ _ _ _ _ c.optional_set_at-x.ensures
    c.behind_sign.ensures c.chart-c.ensures c.behind_sign-2.ensures
    c.optional_set_at-y.ensures c.one_less.ensures
    (c.add_node.ensures _)

-- ── master ──

pub master-returns : goal.master-returns
master-returns t c =
    master_laid _ _ _ _ _ _ _ _ _ _ _ _ _ _ c.behind_sign.ensures
    c.sequential_at-s.ensures c.behind_sign-by.ensures c.behind_sign-2.ensures
    c.small.ensures c.slaves-last.ensures c.behind_sign-3.ensures
    (c.add_chart.ensures _)

-- ── of_state ──

pub of_state-loop-c-init : goal.of_state-loop-c-init
of_state-loop-c-init t c = (c.pair-c.ensures.within, λ l ts r. along_none _ _ _ _ _ l ts _ r)

pub of_state-loop-c-smaller : goal.of_state-loop-c-smaller
of_state-loop-c-smaller t c =
    let s = peek_some _ _ _ refl 44 (omega arith) (sym c.peek.ensures ∙ c.loop-c-test.true) in
    let f = c.behind_sign.ensures.further (omega arith) s in
    omega (arith, f, c.pair-c-in-loop-c.ensures.onward, c.pair-c-in-loop-c.ensures.within)

pub of_state-loop-c-preserved : goal.of_state-loop-c-preserved
of_state-loop-c-preserved t c =
    let p = c.pair-c-in-loop-c in (
      p.ensures.within,
      λ k ts r. along_more _ _ _ _ _ k ts _ _ _ _ _ (sym c.peek.ensures ∙ c.loop-c-test.true)
          c.behind_sign.ensures p.ensures r.2 (c.loop-c.invariant.1 k ts r),
    )

pub of_state-returns : goal.of_state-returns
of_state-returns t c =
    state_laid _ _ _ _ _ _ _ _ _ _ c.pair-c.ensures c.loop-c.invariant.1
    (λ e. c.loop-c-test.false (c.peek.ensures ∙ e)) c.loop-c.invariant.0

-- ── pair ──

pub pair-returns-then-q-state : goal.pair-returns-then-q-state
pair-returns-then-q-state t c =
    pair_other _ _ _ _ _ _ _ _ _ c.requires.1 _ c.behind_sign.ensures c.name_at-q.ensures
    c.behind_sign-first.ensures c.close_at.ensures c.behind_sign-behind.ensures
    _ c.if-q-state.true

pub pair-returns : goal.pair-returns
pair-returns t c =
    pair_own _ _ _ _ _ _ _ _ _ c.requires.1 _ c.behind_sign.ensures c.name_at-q.ensures
    c.behind_sign-first.ensures c.close_at.ensures c.behind_sign-behind.ensures
    _ _ _ _ _ _ c.if-q-state.false c.chart-c.ensures c.one_less.ensures
    (c.add_slave.ensures _)

-- ── part ──

pub part-returns-then-left-eq0 : goal.part-returns-then-left-eq0
part-returns-then-left-eq0 t c = part_none _ _ _ _ c.if-left-eq0.true c.requires

pub part-returns-in-Sequential : goal.part-returns-in-Sequential
part-returns-in-Sequential t c =
    part_sequential _ _ _ _ _ _ _ c.form_at-f.ensures c.in-Sequential.is
    (c.sequential.ensures _)

pub part-returns-in-Decomposed : goal.part-returns-in-Decomposed
part-returns-in-Decomposed t c =
    part_decomposed _ _ _ _ _ _ _ c.form_at-f.ensures c.in-Decomposed.is
    c.master.ensures

pub part-returns-in-Hidden : goal.part-returns-in-Hidden
part-returns-in-Hidden t c =
    part_hidden _ _ _ _ _ _ _ c.form_at-f.ensures c.in-Hidden.is
    c.hidden.ensures

pub part-returns-in-Bracketed : goal.part-returns-in-Bracketed
part-returns-in-Bracketed t c =
    part_bracketed _ _ _ _ _ _ _ c.form_at-f.ensures c.in-Bracketed.is
    c.bracketed.ensures

-- ── slaves ──

pub slaves-loop-state-init : goal.slaves-loop-state-init
slaves-loop-state-init t c = (omega arith, states-none _ _ _ _ _)

pub slaves-loop-state-preserved : goal.slaves-loop-state-preserved
slaves-loop-state-preserved t c = (
  omega arith,
  states-more _ _ _ _ _ _ _ _ _ c.loop-state-test.true c.of_state-c.ensures c.loop-state.invariant.1,
)

pub slaves-returns : goal.slaves-returns
slaves-returns t c =
    slaves-laid _ _ _ _ _ _ _ _ (omega (arith, c.loop-state-test.false, c.loop-state.invariant.0))
    c.close_at.ensures c.loop-state.invariant.1
