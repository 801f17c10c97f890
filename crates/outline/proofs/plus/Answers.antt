-- `plus` meets its contract: a sum that is cut twice is cut at the lower limit.
use mathlib.Core.Path.{◌≡◌, ◌∙◌}
use Prim.Native.Nat.{◌+◌, min}
use native.Mathlib.Omega.{arith}
use Rattle.tokens.specs.Laws.Steps.{cap-min}
use Rattle.outline.proofs.plus.Goals as goal

pub returns : goal.returns
returns c =
    let a = c.args in
    let e : c.min.result ≡ min (a.a + a.b) 1000 = omega (arith, c.min.ensures, c.saturating_add.ensures) in
    e ∙ cap-min (a.a + a.b)
