use mathlib.Core.Path.{◌≡◌, sym, ap, ap₂, ◌∙◌}
use mathlib.Core.List.{List}
use Prim.Native.Nat.{ℕ, ◌+◌}
use native.Mathlib.Omega.{arith}
use lib.ListN.{get_or}
use Rattle.layout.specs.Body.{slave_at}
use Rattle.layout.specs.declared.body.Shape.{Shape}
use Rattle.layout.specs.declared.record.Slave.{Slave}
use Rattle.meaning.specs.File.{file_at}
use Rattle.notation.specs.Syntax.{larger}
use Rattle.parts.specs.Parts.Laws.{slave_there}
use Rattle.depths.specs.Depths.{deepest_by}
use Rattle.depths.specs.Laws.{deepest-none, deepest-more, deepest-other}
use Rattle.depths.proofs.deepest.Goals as goal
use Rattle.depths.proofs.deepest.Goals.{else-s-c, then-s-c}

pub loop-i-init : goal.loop-i-init
unfolding deepest_by
loop-i-init c = sym (deepest-none _ _ _)

-- s is slave i
module _ (n : Shape) (b : List ℕ) (i : ℕ) (s : Slave) (e : s ≡ slave_at n b i) where
  module _ (t : List ℕ) (c most : ℕ) (h : most ≡ deepest_by (file_at n b) t c i) where
    taken : s.chart ≡ c → larger most (get_or t s.node 0) ≡ deepest_by (file_at n b) t c (i + 1)
    unfolding deepest_by file_at
    taken g =
        ap₂ (λ (x y : ℕ). larger x y) h (ap (λ (s : Slave). get_or t s.node 0) e)
        ∙ deepest-more (file_at n b).master (λ i. get_or t ((file_at n b).node i) 0) c i
        (sym (ap (λ (s : Slave). s.chart) e) ∙ g)

    left : (s.chart ≡ c → ⊥) → most ≡ deepest_by (file_at n b) t c (i + 1)
    unfolding deepest_by file_at
    left g =
        h
        ∙ deepest-other (file_at n b).master (λ i. get_or t ((file_at n b).node i) 0) c i
        (λ p. g (ap (λ (s : Slave). s.chart) e ∙ p))

pub bounds-deep-node : goal.bounds-deep-node
bounds-deep-node c =
    let p = c.requires in
    (slave_there _ _ _ _ c.slave_at-s.ensures p.0 p.1.node-there c.loop-i-test.true).0

pub loop-i-preserved : goal.loop-i-preserved
loop-i-preserved c =
    let h = c.loop-i.invariant in elim c.if-s-c.branch [ then-s-c w ↦ w.most-is ∙ w.larger-most.ensures ∙ taken _ _ _ _ c.slave_at-s.ensures _ _ _ h w.if-s-c.true | else-s-c w ↦ w.most-is ∙ left _ _ _ _ c.slave_at-s.ensures _ _ _ h w.if-s-c.false ]

pub returns : goal.returns
returns c =
    let e : c.loop-i.i ≡ c.args.n.slaves = omega arith in
    c.loop-i.invariant ∙ ap (deepest_by _ _ _) e
