use mathlib.Core.Path.{refl, ◌∙◌}
use Rattle.meaning.specs.Each.Laws.{each_both}
use Rattle.reading.specs.Names.{sequential?}
use Rattle.roster.specs.Roster.{crowded?}
use Rattle.roster.specs.Laws.Laid.{each_false, laid-first, laid_more, laid_end}
use Rattle.roster.specs.Laws.Right.{head-put}
use Rattle.roster.proofs.records.heads.Goals as goal
use Rattle.roster.proofs.records.heads.Invariants.{bytes, Good}

pub loop-c-init : goal.loop-c-init
loop-c-init c = (refl, λ ss h e room. laid-first bytes Good _ _ ss _ _ h e)

pub loop-c-preserved : goal.loop-c-preserved
loop-c-preserved c = (
  c.put_head-p.auto.out ∙ c.loop-c.invariant.0,
  λ ss g e room. laid_more bytes Good _ _ ss _ _ _ _ _ _ _ _ g c.loop-c-test.true c.place.ensures
      (head-put c.head_at.ensures c.put_head-p.ensures) room (c.loop-c.invariant.1 ss g e room),
)

pub returns : goal.returns
returns c ss h e f room =
    laid_end bytes Good _ _ ss _ _ _ _ _ h c.loop-c-test.false
    (c.loop-c.invariant.1 ss h
    (each_both ss (each_false sequential? ss e) (each_false crowded? ss f)) room)

pub head_at-requires : goal.head_at-requires
head_at-requires c = c.place.ensures.0

pub shape_of-out : goal.shape_of-out
shape_of-out c = c.loop-c.invariant.0
