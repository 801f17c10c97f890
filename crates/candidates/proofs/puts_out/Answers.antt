use mathlib.Core.Path.{◌≡◌, refl, ap, ◌∙◌}
use Prim.Native.Nat.{ℕ}
use native.Mathlib.Omega.{arith}
use Rattle.signals.specs.Mask.{◌∪◌}
use Rattle.meaning.specs.Rewriting.{union_up_to}
use Rattle.cells.specs.Table.{count_at}
use Rattle.tables.specs.Contents.{may_at}
use Rattle.candidates.specs.Candidates.Laws.{join_more}
use Rattle.candidates.proofs.puts_out.Goals as goal

pub loop-v-init : goal.loop-v-init
unfolding union_up_to
loop-v-init c = refl

pub loop-v-preserved : goal.loop-v-preserved
loop-v-preserved c =
    ap (λ (x : ℕ). c.loop-v.u ∪ x) c.action-u.ensures ∙ join_more _ _ _ c.loop-v.invariant

pub returns : goal.returns
unfolding may_at
returns c =
    let a = c.args in
    let e : c.loop-v.v ≡ count_at a.small.now a.c = omega (arith, c.count-count.ensures) in
    rw e at c.loop-v.invariant
