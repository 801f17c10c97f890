use mathlib.Core.Path.{◌≡◌, sym, ap, ap₂, ◌∙◌}
use mathlib.Core.List.{List}
use Prim.Native.Nat.{ℕ, ◌+◌}
use native.Mathlib.Omega.{arith}
use lib.ListN.{get_or}
use Rattle.signals.specs.Mask.{◌∪◌}
use Rattle.layout.specs.Body.{slave_at}
use Rattle.layout.specs.declared.body.Shape.{Shape}
use Rattle.layout.specs.declared.record.Slave.{Slave}
use Rattle.meaning.specs.File.{file_at}
use Rattle.meaning.specs.Laws.Folds.{join_none, join_more, join_other}
use Rattle.parts.specs.Parts.{with_slaves}
use Rattle.parts.specs.Parts.Laws.{slave_there}
use Rattle.parts.proofs.with_slaves.Goals as goal
use Rattle.parts.proofs.with_slaves.Goals.{else-s-c, then-s-c}

pub loop-i-init : goal.loop-i-init
unfolding with_slaves
loop-i-init c = join_none _ _ _ _

-- s is slave i
module _ (n : Shape) (b : List ℕ) (i : ℕ) (s : Slave) (e : s ≡ slave_at n b i) where
  module _ (t : List ℕ) (c own all : ℕ) (h : all ≡ with_slaves (file_at n b) t c own i) where
    taken : s.chart ≡ c → all ∪ get_or t s.node 0 ≡ with_slaves (file_at n b) t c own (i + 1)
    unfolding with_slaves file_at
    taken g =
        ap₂ ◌∪◌ h (ap (λ (s : Slave). get_or t s.node 0) e)
        ∙ join_more (file_at n b).master
        (λ i. get_or t ((file_at n b).node i) 0) c own i (sym (ap (λ (s : Slave). s.chart) e) ∙ g)

    left : (s.chart ≡ c → ⊥) → all ≡ with_slaves (file_at n b) t c own (i + 1)
    unfolding with_slaves file_at
    left g = h ∙ join_other (file_at n b).master (λ i. get_or t ((file_at n b).node i) 0) c own i
        (λ p. g (ap (λ (s : Slave). s.chart) e ∙ p))

pub bounds-table-node : goal.bounds-table-node
bounds-table-node c =
    let p = c.requires in
    (slave_there _ _ _ _ c.slave_at-s.ensures p.0 p.1.node-there c.loop-i-test.true).0

pub loop-i-preserved : goal.loop-i-preserved
loop-i-preserved c =
    let h = c.loop-i.invariant in elim c.if-s-c.branch [ then-s-c w ↦ w.all-is ∙ taken _ _ _ _ c.slave_at-s.ensures _ _ _ _ h w.if-s-c.true | else-s-c w ↦ w.all-is ∙ left _ _ _ _ c.slave_at-s.ensures _ _ _ _ h w.if-s-c.false ]

pub returns : goal.returns
returns c =
    let e : c.loop-i.i ≡ c.args.n.slaves = omega arith in
    c.loop-i.invariant ∙ ap (with_slaves _ _ _ _) e
