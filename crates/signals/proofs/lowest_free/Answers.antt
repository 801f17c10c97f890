use Prim.Native.Nat.{◌-◌, ◌^◌}
use mathlib.Core.Path.{sym, ◌∙◌}
use native.Mathlib.Omega.{arith}
use borrow.Author.Count.{below_more}
use lib.Dec.{lit<}
use Rattle.signals.specs.Mask.Laws.{ext_below}
use Rattle.signals.specs.All.{bit-all}
use Rattle.signals.proofs.lowest_free.Goals as goal

pub loop-n-init : goal.loop-n-init
loop-n-init c = λ k h. absurd (omega arith)

pub has-requires : goal.has-requires
has-requires c = omega arith

pub returns-then-not-has : goal.returns-then-not-has
returns-then-not-has c = (
  omega arith,
  (
    sym c.has.ensures ∙ c.if-not-has.true,
    c.loop-n.invariant,
  ),
)

pub loop-n-preserved : goal.loop-n-preserved
loop-n-preserved c = below_more _ _ c.loop-n.invariant (sym c.has.ensures ∙ c.if-not-has.false)

pub returns : goal.returns
returns c =
    ext_below 64 c.args.s (2 ^ 64 - 1) c.ranges.s.fits (lit< tt)
    (λ k h. c.loop-n.invariant k (omega arith) ∙ sym (bit-all 64 k h))
