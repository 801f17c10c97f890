-- `guard::halve` meets its contract: where none of k signals is there they are passed over, and else one of them is.
use mathlib.Core.Path.{◌≡◌, sym, ap, ◌∙◌}
use Prim.Native.Nat.{ℕ, ◌*◌, ◌%◌, ◌^◌, ◌<◌}
use native.Mathlib.Nat.{one-mul}
use native.Mathlib.Omega.{arith}
use lib.Dec.{lit<}
use lib.Pow.{shl_exact, pow_pos}
use Rattle.signals.specs.Halving.Laws.{halved, kept}
use Rattle.signals.proofs.guard.halve.Goals as goal

-- nothing is shifted out
power : (k : ℕ) → k < 64 → 1 * 2 ^ k % 2 ^ 64 ≡ 2 ^ k
power k l = shl_exact 1 k 64 (lit< tt) (omega arith) ∙ one-mul _

pub nonzero_rem-left : goal.nonzero_rem-left
nonzero_rem-left c =
    let e = power c.args.k (omega arith) in let p = pow_pos c.args.k in omega (arith, e, p)

pub returns-then-left-k-lt1 : goal.returns-then-left-k-lt1
returns-then-left-k-lt1 c = (
  omega arith,
  λ s.
      halved s c.args.k c.args.r
      (ap (λ x. c.args.r.left % x) (sym (power c.args.k (omega arith)))
      ∙ (let h = c.if-left-k-lt1.true in omega arith)),
)

pub returns : goal.returns
returns c = (
  omega arith,
  λ s.
      kept s c.args.k c.args.r
      (λ z. let e = ap (λ x. c.args.r.left % x) (power c.args.k (omega arith)) ∙ z in let h = c.if-left-k-lt1.false in
      omega arith),
)
