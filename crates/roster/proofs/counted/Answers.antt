-- `counted` meets its contract: a sum that is cut twice is cut at the lower limit.
use mathlib.Core.Path.{◌≡◌, ◌∙◌}
use Prim.Native.Nat.{ℕ, ◌+◌, ◌<◌, min}
use native.Mathlib.Omega.{arith}
use Rattle.std.proofs.Math.Decide.{dec_lt}
use Rattle.roster.specs.Roster.{cut}
use Rattle.roster.specs.Laws.Walk.{cut_below, cut_above}
use Rattle.roster.proofs.counted.Goals as goal

cut-min : (n : ℕ) → min n 65535 ≡ cut n
cut-min n = go (dec_lt n 65535)
  where
    go : Dec (n < 65535) → min n 65535 ≡ cut n
    go (yes l) = omega (arith, cut_below n l)
    go (no l) = omega (arith, cut_above n (omega arith))

pub returns : goal.returns
returns c =
    let a = c.args in
    let e : c.min.result ≡ min (a.a + a.b) 65535 = omega (arith, c.min.ensures, c.saturating_add.ensures) in
    e ∙ cut-min (a.a + a.b)
