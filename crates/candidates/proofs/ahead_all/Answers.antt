use mathlib.Core.Path.{◌≡◌, ◌∙◌, subst}
use Prim.Native.Nat.{suc, ◌-◌}
use native.Mathlib.Omega.{arith}
use Rattle.tables.specs.Insertion.{AheadFrom}
use Rattle.tables.specs.Insertion.Laws.{from_last, from_next}
use Rattle.candidates.proofs.ahead_all.Goals as goal

pub loop-k-preserved : goal.loop-k-preserved
loop-k-preserved c =
    let a = c.args in
    let r = c.requires in
    let k = c.loop-k.k - 1 in
    let e : c.loop-k.k ≡ suc k = omega arith in (
      c.ahead_row.ensures.long ∙ c.loop-k.invariant.0,
      λ m h. from_next a.charts r.1 a.small.now m k c.loop-k.masks _ _ (omega arith) (r.2 k (omega arith))
          c.puts_out-u.ensures
          (subst (λ z. AheadFrom a.charts a.small.now z m c.loop-k.masks) e (c.loop-k.invariant.1 m h))
          c.ahead_row.ensures,
    )

pub returns : goal.returns
returns c =
    let a = c.args in
    let e : c.loop-k.k ≡ 0 = omega arith in
    subst (λ z. AheadFrom a.charts a.small.now z a.masks.now c.loop-k.masks) e
    (c.loop-k.invariant.1 a.masks.now
    (from_last a.charts c.requires.1 a.small.now a.masks.now _ c.clear_row.ensures))
