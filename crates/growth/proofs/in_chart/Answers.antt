-- `in_chart` meets its contract.
use mathlib.Core.Path.{ap}
use Prim.Native.Nat.{ℕ, ◌+◌, ◌<◌}
use native.Mathlib.Omega.{arith}
use borrow.Author.Rules.{rules}
use Rattle.growth.specs.Growth.Laws.{count_most}
use Rattle.growth.proofs.in_chart.Goals as goal

pub returns : goal.returns
returns c =
    let a = c.args in
    let e = c.idle_count.ensures in
    let t : a.h.transitions < 256 = search rules in
    let s : a.h.states < 256 = search rules in
    (ap (λ (k : ℕ). a.h.transitions + k) e, omega (arith, count_most a.inner a.h.states))

pub overflow_add-result : goal.overflow_add-result
overflow_add-result c =
    omega (
      arith,
      c.idle_count.ensures,
      count_most c.args.inner c.args.h.states,
    )
