use mathlib.Core.Path.{◌≡◌, sym, ◌∙◌}
use Prim.Native.Nat.{◌+◌, ◌≤◌}
use native.Mathlib.Nat.{mul-zero}
use native.Mathlib.Omega.{arith}
use lib.ListN.{length}
use Rattle.meaning.specs.Sums.Laws.{any_none, any-more, any_at}
use Rattle.checks.proofs.Laws.{next-at, next_in_lem}
use Rattle.checks.proofs.zeros.any_nonzero.Goals as goal
use Rattle.checks.proofs.zeros.any_nonzero.Goals.{In-loop-i}

-- the next record lies within the bytes
within : (c : In-loop-i)
    → c.loop-i.place + c.args.size ≤ length c.args.s.now
within c =
    omega (
      arith,
      next_in_lem c.args.size c.loop-i.i c.args.count
          c.loop-i-test.true,
    )

pub loop-i-init : goal.loop-i-init
loop-i-init c = (omega (arith, mul-zero c.args.size), any_none _)

-- the record at `place` is record i
pub returns-then-nonzero : goal.returns-then-nonzero
returns-then-nonzero c =
    sym (any_at _ _ c.loop-i.i c.loop-i-test.true
    (rw (← c.loop-i.invariant.0) (sym c.nonzero.ensures ∙ c.if-nonzero.true)))

pub loop-i-preserved : goal.loop-i-preserved
loop-i-preserved c = (
  omega (arith, next-at c.args.size c.loop-i.i),
  any-more _ _ c.loop-i.invariant.1 (rw (← c.loop-i.invariant.0) (sym c.nonzero.ensures ∙ c.if-nonzero.false)),
)

pub returns : goal.returns
returns c =
    let e : c.loop-i.i ≡ c.args.count = omega arith in
    sym (rw e at c.loop-i.invariant.1)

pub overflow_add-place : goal.overflow_add-place
overflow_add-place c = omega (arith, within (goal.at.overflow_add-place c).In-loop-i)

pub nonzero-requires : goal.nonzero-requires
nonzero-requires c = omega (arith, within (goal.at.nonzero-requires c).In-loop-i)

pub overflow_add-place-in-loop-i : goal.overflow_add-place-in-loop-i
overflow_add-place-in-loop-i c = omega (arith, within (goal.at.overflow_add-place-in-loop-i c).In-loop-i)
