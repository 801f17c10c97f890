use mathlib.Core.Path.{◌≡◌, sym, ◌∙◌}
use native.Mathlib.Omega.{arith}
use borrow.Author.Rules.{rules}
use Rattle.meaning.specs.Sums.Laws.{any_none, any-more, any_at}
use Rattle.tables.specs.Insertion.{is_again}
use Rattle.candidates.proofs.is_again.Goals as goal

pub loop-v-init : goal.loop-v-init
loop-v-init c = any_none _

pub returns-then-is_at : goal.returns-then-is_at
unfolding is_again
returns-then-is_at c =
    sym
    (any_at _ _ c.loop-v.v (omega arith) (sym c.is_at.ensures ∙ c.if-is_at.true))

pub loop-v-preserved : goal.loop-v-preserved
loop-v-preserved c = any-more _ _ c.loop-v.invariant (sym c.is_at.ensures ∙ c.if-is_at.false)

pub returns : goal.returns
unfolding is_again
returns c =
    let e : c.loop-v.v ≡ c.args.n = omega arith in
    sym (rw e at c.loop-v.invariant)
