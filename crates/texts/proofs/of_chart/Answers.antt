-- `of_chart` meets its contract: the tests of the chart in their order, each by what was found of it.
use mathlib.Core.Path.{sym, ◌∙◌}
use Rattle.std.specs.Prelude.{Ok}
use Rattle.outline.specs.Outline.{OutlineFor}
use Rattle.roster.specs.Roster.{GivesRoster}
use Rattle.texts.specs.Laws.Steps.{says-deep, says-named, says-over, says-crowded, is_ready}
use Rattle.texts.proofs.of_chart.Goals as goal
use Rattle.texts.proofs.of_chart.Goals.{After-of_text-s}

-- what was found
outlined : (c : After-of_text-s) → OutlineFor c.requires.chart (Ok c.in-Ok.o)
outlined c = let p = c.requires in c.in-Ok.ensures.gives p.chart p.spells

rostered : (c : After-of_text-s) → GivesRoster c.args.text.now c.of_text-s.result c.requires.chart
rostered c = let p = c.requires in c.of_text-s.ensures p.chart p.spells

pub returns-in_default : goal.returns-in_default
returns-in_default c =
    let p = c.requires in
    rw c.into.ensures (says-deep _ _ p.spells c.args.out.now _ (c.in_default.ensures.gives p.chart p.spells))

pub returns-then-s-o : goal.returns-then-s-o
returns-then-s-o c =
    let f = (goal.at.returns-then-s-o c).After-of_text-s in
    rw c.into-then-s-o.ensures (says-named _ _ c.requires.spells c.args.out.now _ (outlined f) _ (rostered f) c.if-s-o.true)

pub returns-then-is_over : goal.returns-then-is_over
returns-then-is_over c =
    let f = (goal.at.returns-then-is_over c).After-of_text-s in
    rw c.into-then-is_over.ensures
    (says-over _ _ c.requires.spells c.args.out.now _ (outlined f) _ (rostered f) c.if-s-o.false _ c.shape-m.ensures
    (sym c.is_over.ensures ∙ c.if-is_over.true))

pub returns-then-s : goal.returns-then-s
returns-then-s c =
    let f = (goal.at.returns-then-s c).After-of_text-s in
    rw c.into-then-s.ensures
    (says-crowded _ _ c.requires.spells c.args.out.now _ (outlined f) _ (rostered f) c.if-s-o.false _ c.shape-m.ensures
    (sym c.is_over.ensures ∙ c.if-is_over.false) c.if-s.true)

pub of_ready-requires : goal.of_ready-requires
of_ready-requires c =
    let f = (goal.at.of_ready-requires c).After-of_text-s in
    is_ready _ _ c.requires.spells c.args.out.now _ (outlined f) _ (rostered f) c.if-s-o.false _ c.shape-m.ensures
    (sym c.is_over.ensures ∙ c.if-is_over.false) c.if-s.false
