use mathlib.Core.Path.{refl, ◌∙◌}
use Rattle.reading.specs.Names.{sequential?}
use Rattle.laying.specs.Sequence.{put_is}
use Rattle.roster.specs.Records.{lines_of}
use Rattle.roster.specs.Laws.Laid.{each_false, laid-first, laid_more, laid_end}
use Rattle.roster.specs.Laws.Lines.{lines_gathered}
use Rattle.roster.proofs.records.transitions.Goals as goal
use Rattle.roster.proofs.records.transitions.Invariants.{Good}

pub loop-c-init : goal.loop-c-init
loop-c-init c = (refl, λ ss h e room. laid-first lines_of Good _ _ ss _ _ h e)

pub loop-c-preserved : goal.loop-c-preserved
loop-c-preserved c = (
  c.lines_at-p.auto.out ∙ c.loop-c.invariant.0,
  λ ss g e room. laid_more lines_of Good _ _ ss _ _ _ _ _ _ _ _ g c.loop-c-test.true c.place.ensures
      c.lines_at-p.ensures room (c.loop-c.invariant.1 ss g e room),
)

pub returns : goal.returns
returns c ss h e room =
    let is = lines_gathered ss in
    put_is is
    (laid_end lines_of Good _ _ ss _ _ _ _ _ h c.loop-c-test.false
    (c.loop-c.invariant.1 ss h (each_false sequential? ss e) (rw is room)))

pub lines_at-p-requires : goal.lines_at-p-requires
lines_at-p-requires c = c.place.ensures.0

pub shape_of-out : goal.shape_of-out
shape_of-out c = c.loop-c.invariant.0
