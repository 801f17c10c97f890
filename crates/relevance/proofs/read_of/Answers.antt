use mathlib.Core.Path.{◌≡◌, refl, ap, ap₂, ◌∙◌}
use Prim.Native.Nat.{ℕ}
use native.Mathlib.Omega.{arith}
use lib.ListN.{get_or}
use Rattle.signals.specs.Mask.{◌∪◌, ◌∩◌}
use Rattle.meaning.specs.Rewriting.{union_up_to}
use Rattle.tables.specs.Narrowing.{read_at}
use Rattle.candidates.specs.Candidates.Laws.{join_more}
use Rattle.relevance.proofs.read_of.Goals as goal

pub loop-c-init : goal.loop-c-init
unfolding union_up_to
loop-c-init c = refl

pub loop-c-preserved : goal.loop-c-preserved
loop-c-preserved c =
    let a = c.args in ap (λ (x : ℕ). c.loop-c.u ∪ x ∩ get_or a.asks.now c.loop-c.c 0) c.back.ensures ∙ join_more _ _ _ c.loop-c.invariant

pub returns : goal.returns
unfolding read_at
returns c =
    let e : c.loop-c.c ≡ c.args.charts = omega arith in
    ap₂ (λ (x y : ℕ). x ∪ y) c.up.ensures (rw e at c.loop-c.invariant)
