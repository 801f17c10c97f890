-- `enclosing` meets its contract: a slave's number is below the number of slaves, and 255 is not. Assumes nothing.
use mathlib.Core.Path.{◌∙◌}
use native.Mathlib.Omega.{arith}
use Rattle.meaning.specs.File.{file_at}
use Rattle.nesting.proofs.Records.{is_slave}
use Rattle.nesting.proofs.Near.{enclosed, alone}
use Rattle.nesting.proofs.enclosing.Goals as goal

pub overflow_cast-i : goal.overflow_cast-i
overflow_cast-i c = omega (arith, c.type_inv.near c.args.j)

pub returns-then-i-n : goal.returns-then-i-n
unfolding file_at
returns-then-i-n c =
    let p = c.requires in
    let is = is_slave _ _ _ c.slave_at.ensures in
    let h = enclosed _ _ _ p.3 (omega (arith, p.0.sized.slaves)) c.if-i-n.true in
    (is.chart ∙ h.0, is.state ∙ h.1)

pub returns : goal.returns
unfolding file_at
returns c = alone _ _ _ c.requires.3 c.if-i-n.false
