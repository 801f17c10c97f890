-- `lines_at` meets its contract: the byte behind the opening brace tells whether there are transitions.
use mathlib.Core.Path.{sym, ◌∙◌}
use Rattle.roster.specs.Laws.Lines.{chart-none, chart_some}
use Rattle.roster.proofs.records.lines_at.Goals as goal

pub returns-then-peek-eq125 : goal.returns-then-peek-eq125
returns-then-peek-eq125 c =
    chart-none _ _ _ _ _ c.heading_at-h.ensures c.behind_sign.ensures c.behind_sign-i.ensures _ _
    (sym c.peek.ensures ∙ c.if-peek-eq125.true)

pub returns : goal.returns
returns c =
    chart_some _ _ _ _ _ c.heading_at-h.ensures c.behind_sign.ensures c.behind_sign-i.ensures _ _ _ _
    (λ k. c.if-peek-eq125.false (c.peek.ensures ∙ k)) c.lines_from.ensures

pub behind_sign-requires : goal.behind_sign-requires
behind_sign-requires c = c.heading_at-h.ensures.within

pub behind_sign-i-requires : goal.behind_sign-i-requires
behind_sign-i-requires c = c.behind_sign.ensures.within

pub peek-requires : goal.peek-requires
peek-requires c = c.behind_sign-i.ensures.within

pub lines_from-requires : goal.lines_from-requires
lines_from-requires c = c.behind_sign-i.ensures.within
