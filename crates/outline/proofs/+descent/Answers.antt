-- The outline of a chart is read by functions that call each other. Each meets its contract by a law of Laws.Forms or,
-- the loop over slaves, of Laws.Slaves.
use Rattle.std.proofs.Common.{Result, Ok, Err, is_err, true, refl, sym, ◌≡◌, ◌∙◌, ap, ◌+◌, drop, arith, subst}
use Rattle.std.proofs.lemmas.Bool.{false≢true}
use mathlib.Core.Bool.{◌||◌}
use Rattle.tokens.specs.Tokens.{blanks}
use Rattle.tokens.specs.Laws.Steps.{peek_some}
use Rattle.outline.specs.declared.Outline.{Outline}
use Rattle.outline.specs.declared.TooDeep.{TooDeep}
use Rattle.outline.specs.Laws.Forms.{chart-deep, chart-single, second-deep, chart-composed, part_none, part_right}
use Rattle.outline.specs.Laws.Forms.{bracketed_deep, bracketed_right, hidden_deep, hidden_right, decomposed_deep}
use Rattle.outline.specs.Laws.Forms.{decomposed_right, pair_deep, pair_right}
use Rattle.outline.specs.Laws.Slaves.{Along, first-deep, along_first, more-deep, along_more, along_end, larger-at_most}
use Rattle.outline.proofs.+descent.Goals as goal

-- there is one error
failed : (r : Result Outline TooDeep) → is_err r ≡ true → r ≡ Err (record {})
failed (Ok o) e = absurd (false≢true e)
failed (Err d) e = refl

-- ── a chart ──

pub chart-returns-in_err-p : goal.chart-returns-in_err-p
chart-returns-in_err-p t c =
    rw (failed c.from_residual.result c.from_residual.ensures.0)
    (chart-deep _ _ _ _ c.in_err-p.ensures)

pub chart-returns-then-peek-ne124 : goal.chart-returns-then-peek-ne124
chart-returns-then-peek-ne124 t c =
    chart-single _ _ _ _ c.in_ok-p.ensures (λ f. c.if-peek-ne124.true (c.peek.ensures ∙ f))

pub chart-returns-in_err-q : goal.chart-returns-in_err-q
chart-returns-in_err-q t c =
    rw (failed c.from_residual-in_err-q.result c.from_residual-in_err-q.ensures.0)
    (second-deep _ _ _ _ c.in_ok-p.ensures (sym c.peek.ensures ∙ c.if-peek-ne124.false) _ _ _
    c.behind_sign.ensures c.set-x.ensures c.behind_sign-2.ensures _ c.in_err-q.ensures)

pub chart-returns : goal.chart-returns
chart-returns t c =
    chart-composed _ _ _ _ c.in_ok-p.ensures (sym c.peek.ensures ∙ c.if-peek-ne124.false) _ _ _
    c.behind_sign.ensures c.set-x.ensures c.behind_sign-2.ensures _ _ c.in_ok-q.ensures c.composed.ensures

-- ── a part ──

pub part-returns-then-left-eq0 : goal.part-returns-then-left-eq0
part-returns-then-left-eq0 t c = part_none _ _ _ _ c.if-left-eq0.true

pub part-returns-in-Sequential : goal.part-returns-in-Sequential
part-returns-in-Sequential t c =
    part_right _ _ _ _ _ _ c.form_at-f.ensures (sym c.in-Sequential.is) c.sequential.ensures

pub part-returns-in-Decomposed : goal.part-returns-in-Decomposed
part-returns-in-Decomposed t c =
    part_right _ _ _ _ _ _ c.form_at-f.ensures (sym c.in-Decomposed.is) c.master.ensures

pub part-returns-in-Hidden : goal.part-returns-in-Hidden
part-returns-in-Hidden t c =
    part_right _ _ _ _ _ _ c.form_at-f.ensures (sym c.in-Hidden.is) c.hidden.ensures

pub part-returns-in-Bracketed : goal.part-returns-in-Bracketed
part-returns-in-Bracketed t c =
    part_right _ _ _ _ _ _ c.form_at-f.ensures (sym c.in-Bracketed.is) c.bracketed.ensures

-- ── a composition in brackets ──

pub bracketed-returns-in_err-both : goal.bracketed-returns-in_err-both
bracketed-returns-in_err-both t c =
    rw (failed c.from_residual.result c.from_residual.ensures.0)
    (bracketed_deep _ _ _ c.requires.1 _ c.behind_sign.ensures _ c.in_err-both.ensures)

pub bracketed-returns : goal.bracketed-returns
bracketed-returns t c =
    bracketed_right _ _ _ c.requires.1 _ c.behind_sign.ensures _ _ c.in_ok-both.ensures c.behind_sign-next.ensures refl
    refl refl refl

-- ── a hidden chart ──

pub hidden-returns-in_err-p : goal.hidden-returns-in_err-p
hidden-returns-in_err-p t c =
    rw (failed c.from_residual.result c.from_residual.ensures.0)
    (hidden_deep _ _ _ c.requires.1 _ _ c.optional_set_at-x.ensures c.behind_sign.ensures _ c.in_err-p.ensures)

pub hidden-returns : goal.hidden-returns
hidden-returns t c =
    hidden_right _ _ _ c.requires.1 _ _ c.optional_set_at-x.ensures c.behind_sign.ensures _ _ _ _ c.in_ok-p.ensures
    c.behind_sign-2.ensures c.optional_set_at-y.ensures refl refl c.plus.ensures refl refl

-- ── a master ──

pub master-returns-in_err-all : goal.master-returns-in_err-all
master-returns-in_err-all t c =
    rw (failed c.from_residual.result c.from_residual.ensures.0)
    (decomposed_deep _ _ _ c.requires.1 _ _ _ _ c.behind_sign.ensures c.sequential_at-s.ensures
    c.behind_sign-2.ensures c.behind_sign-i.ensures _ c.in_err-all.ensures)

pub master-returns : goal.master-returns
master-returns t c =
    decomposed_right _ _ _ c.requires.1 _ _ _ _ c.behind_sign.ensures c.sequential_at-s.ensures
    c.behind_sign-2.ensures c.behind_sign-i.ensures _ _ c.in_ok-all.ensures refl refl c.plus.ensures refl refl

-- ── a slave ──

pub pair-returns-in_err-p : goal.pair-returns-in_err-p
pair-returns-in_err-p t c =
    rw (failed c.from_residual.result c.from_residual.ensures.0)
    (pair_deep _ _ _ _ _ _ _ c.behind_sign.ensures c.name_at-q.ensures c.behind_sign-2.ensures _ c.in_err-p.ensures)

pub pair-returns : goal.pair-returns
pair-returns t c =
    pair_right _ _ _ _ _ _ _ c.behind_sign.ensures c.name_at-q.ensures c.behind_sign-2.ensures _ _ c.in_ok-p.ensures
    c.behind_sign-3.ensures refl (ap (◌|| c.in_ok-p.p.bad) c.lacks.ensures) refl c.plus.ensures

-- ── the slaves of a master ──

pub slaves-returns-in_err-all : goal.slaves-returns-in_err-all
slaves-returns-in_err-all t c =
    rw (failed c.from_residual.result c.from_residual.ensures.0)
    (record { inside = tt; gives = λ ps us h. first-deep _ _ _ ps us _ h _ c.in_err-all.ensures })

pub slaves-loop-all-init : goal.slaves-loop-all-init
slaves-loop-all-init t c =
    let o = c.in_ok-all.ensures in
    (o.inside, λ ps us h. along_first _ _ _ ps us _ h _ o)

pub slaves-returns-in_err-p : goal.slaves-returns-in_err-p
slaves-returns-in_err-p t c =
    let l = c.loop-all in
    rw (failed c.from_residual-in_err-p.result c.from_residual-in_err-p.ensures.0)
    (record {
      inside = tt;
      gives =
          λ ps us h. more-deep _ _ _ ps us _ _ (l.invariant.1 ps us h) _ (sym c.peek.ensures ∙ c.loop-all-test.true)
          c.behind_sign.ensures _ c.in_err-p.ensures;
    })

pub slaves-loop-all-smaller : goal.slaves-loop-all-smaller
slaves-loop-all-smaller t c =
    let i = c.loop-all.all.next in
    let w = c.args.text.now in
    let s = peek_some w i (i + blanks (drop i w)) refl 44 (omega arith)
    (sym c.peek.ensures ∙ c.loop-all-test.true) in
    let g = c.behind_sign.ensures.further (omega arith) s in
    let o = c.in_ok-p.ensures.inside in
    omega (arith, g, o.onward, o.within, c.joined-all.ensures.is_next)

pub slaves-loop-all-preserved : goal.slaves-loop-all-preserved
slaves-loop-all-preserved t c =
    let l = c.loop-all in
    let i = l.invariant.0 in
    let o = c.in_ok-p.ensures in
    let j = c.joined-all.ensures in
    let m = larger-at_most l.all.depth c.in_ok-p.p.depth _ i.small o.inside.small in (
      record {
        within = omega (arith, o.inside.within, j.is_next);
        onward = omega (arith, i.onward, c.behind_sign.ensures.onward, o.inside.onward, j.is_next);
        small = omega (arith, j.is_depth, m);
      },
      λ ps us h. subst (λ i. Along c.args.text.now c.args.mask c.args.left i c.joined-all.result ps us) (sym j.is_next)
          (along_more _ _ _ ps us _ _ (l.invariant.1 ps us h) _ (sym c.peek.ensures ∙ c.loop-all-test.true)
          c.behind_sign.ensures _ _ o j),
    )

pub slaves-returns : goal.slaves-returns
slaves-returns t c =
    let l = c.loop-all in
    let b = c.behind_sign-next.ensures in
    record {
      inside = record {
        within = b.within;
        onward = omega (arith, l.invariant.0.onward, b.onward);
        small = l.invariant.0.small;
      };
      gives =
          λ ps us h. along_end _ _ _ ps us _ _ (l.invariant.1 ps us h) _ (λ e. c.loop-all-test.false (c.peek.ensures ∙ e))
          b refl refl refl refl;
    }
