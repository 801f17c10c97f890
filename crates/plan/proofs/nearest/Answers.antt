use mathlib.Core.Path.{refl, ◌∙◌}
use native.Mathlib.Omega.{arith}
use borrow.Author.Rules.{rules}
use Rattle.meaning.specs.File.{file_at}
use Rattle.plan.proofs.Noted.{noted_more, noted_done, nearest-none}
use Rattle.plan.proofs.nearest.Goals as goal

pub returns-then-n-eq0 : goal.returns-then-n-eq0
unfolding file_at
returns-then-n-eq0 c =
    nearest-none (file_at c.args.n c.args.body.now) c.if-n-eq0.true
    c.requires.0.sized.charts c.note_none.new.small c.note_none.ensures

pub loop-j-init : goal.loop-j-init
loop-j-init c = (refl, λ k p. absurd (omega arith))

pub note-requires : goal.note-requires
unfolding file_at
note-requires c =
    let p = c.requires in
    let t = c.loop-j-test.true in
    (p.0, t, search rules, c.enclosers-near.ensures c.loop-j.j t, c.loop-j.invariant.0 ∙ p.1)

pub loop-j-preserved : goal.loop-j-preserved
unfolding file_at
loop-j-preserved c = (
  c.note.auto.small ∙ c.loop-j.invariant.0,
  noted_more _ c.requires.0.sound c.loop-j.j c.loop-j.small _ c.loop-j-test.true c.loop-j.invariant.1
      c.note.ensures,
)

pub returns : goal.returns
unfolding file_at
returns c =
    noted_done _ c.requires.0.sound
    c.loop-j.j c.loop-j.small c.loop-j-test.false c.loop-j.invariant.1

pub enclosers-near-requires : goal.enclosers-near-requires
enclosers-near-requires c = c.requires.0

pub shape_of-small : goal.shape_of-small
shape_of-small c = c.loop-j.invariant.0
