-- `step::try_wired` meets its contract: where no choice is open, or too many are, a search is not made, and what was
-- found is nothing; else it is what the search finds.
use mathlib.Core.Path.{◌∙◌}
use borrow.Author.Rules.{rules}
use Rattle.wiring.specs.Reach.{full}
use Rattle.stepping.specs.Step.Laws.{ready_valid, read_all, tries_none, tries_many, tries_found}
use Rattle.stepping.proofs.step.try_wired.Goals as goal

pub puts_all-requires : goal.puts_all-requires
puts_all-requires c =
    (ready_valid _ _ _ c.requires.0 c.requires.1, search rules, search rules, search rules)

pub counted-open_choices-requires : goal.counted-open_choices-requires
counted-open_choices-requires c = (
  c.requires.0,
  c.requires.1,
  c.requires.2.wired.nearest_is,
  c.requires.2.tabled.small,
  c.puts_all.ensures.counts-long,
  c.puts_all.ensures.many,
  search rules,
)

pub returns-then-open_choices-eq0 : goal.returns-then-open_choices-eq0
returns-then-open_choices-eq0 c =
    let u = c.untried.ensures in
    (tries_none _ _ _ _ _ (u.0 ∙ c.counted-open_choices.ensures.0) u.1 (u.0 ∙ c.if-open_choices-eq0.true), c.requires.2)

pub returns-then-open_choices-gt-MOST_OPEN : goal.returns-then-open_choices-gt-MOST_OPEN
returns-then-open_choices-gt-MOST_OPEN c =
    let u = c.untried-then-open_choices-gt-MOST_OPEN.ensures in
    (tries_many _ _ _ _ _ (u.0 ∙ c.counted-open_choices.ensures.0) u.1 (rw u.0 c.if-open_choices-gt-MOST_OPEN.true), c.requires.2)

pub read_by-requires : goal.read_by-requires
unfolding full
read_by-requires c =
    let e = c.puts_all.ensures in (
      ready_valid _ _ _ c.requires.0 c.requires.1,
      c.requires.2.tabled.masks,
      record {
        read = read_all c.args.n c.args.body.now c.args.config.now c.requires.0.sized.charts;
        mays = e.mays;
        sure = e.sure;
      },
      e.may-long,
      e.sures-long,
      c.counted-open_choices.ensures.2,
    )

pub found-found-requires : goal.found-found-requires
found-found-requires c = (
  c.requires.0,
  ready_valid _ _ _ c.requires.0 c.requires.1,
  c.requires.2,
  c.counted-open_choices.ensures.1,
  c.read_by.ensures _ _ c.requires.2,
)

pub returns : goal.returns
returns c =
    (tries_found _ _ _ _ _ c.counted-open_choices.ensures.0 c.if-open_choices-gt-MOST_OPEN.false c.found-found.ensures.0, c.found-found.ensures.1)
