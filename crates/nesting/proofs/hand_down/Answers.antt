use mathlib.Core.Path.{◌≡◌, refl, ◌∙◌}
use native.Mathlib.Omega.{arith}
use Rattle.meaning.specs.File.{file_at}
use Rattle.nesting.proofs.Near.{walked_none, walked_right, walked_more, walked_done}
use Rattle.nesting.proofs.hand_down.Goals as goal

pub loop-j-init : goal.loop-j-init
unfolding file_at
loop-j-init c = walked_none _ c.requires.0.sound refl c.requires.2

pub hand-requires : goal.hand-requires
unfolding file_at
hand-requires c =
    let p = c.requires in
    let v = c.loop-j.auto in
    (p.0, omega arith, v.near ∙ p.1, walked_right _ p.0.sound c.loop-j-test.true v.j c.loop-j.invariant)

pub loop-j-preserved : goal.loop-j-preserved
loop-j-preserved c = walked_more _ c.requires.0.sound c.loop-j-test.true c.loop-j.invariant c.hand.ensures

pub returns : goal.returns
returns c =
    let e : c.loop-j.j ≡ 0 = omega arith in
    walked_done _ c.requires.0.sound (rw e at c.loop-j.invariant)
