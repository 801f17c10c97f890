use mathlib.Core.Path.{◌≡◌, sym, ap, ◌∙◌}
use Prim.Native.Nat.{ℕ, ◌+◌}
use native.Mathlib.Omega.{arith}
use Rattle.meaning.specs.Sums.Laws.{tally-none}
use Rattle.growth.specs.Growth.Laws.{count-own, count-other}
use Rattle.growth.proofs.slaves_of.Goals as goal
use Rattle.growth.proofs.slaves_of.Goals.{else-slave_at-c, then-slave_at-c}

pub loop-i-init : goal.loop-i-init
loop-i-init c = (omega arith, sym (tally-none _))

pub loop-i-preserved : goal.loop-i-preserved
loop-i-preserved c =
    let e = c.slave_at.ensures in (
      elim c.if-slave_at-c.branch [ then-slave_at-c w ↦ let q = w.times-is in omega arith | else-slave_at-c w ↦ let q = w.times-is in omega arith ],
      elim c.if-slave_at-c.branch [ then-slave_at-c w ↦ w.times-is ∙ ap (λ (k : ℕ). k + 1) c.loop-i.invariant.1 ∙ count-own _ _ _ _ e w.if-slave_at-c.true | else-slave_at-c w ↦ w.times-is ∙ c.loop-i.invariant.1 ∙ count-other _ _ _ _ e w.if-slave_at-c.false ],
    )

pub returns : goal.returns
returns c =
    let e : c.loop-i.i ≡ c.args.n.slaves = omega arith in
    (rw e at c.loop-i.invariant.1, omega arith)

pub slave_at-requires : goal.slave_at-requires
slave_at-requires c = (c.requires.sized.holds, omega arith)
