use mathlib.Core.Path.{◌≡◌, sym, ap, ◌∙◌}
use mathlib.Core.Bool.{true, false}
use mathlib.Core.List.{List}
use Prim.Native.Nat.{ℕ}
use borrow.Author.Tests.{eq-eqb, ne_eqb}
use Rattle.layout.specs.Body.{slave_at}
use Rattle.layout.specs.declared.body.Shape.{Shape}
use Rattle.layout.specs.declared.record.Slave.{Slave}
use Rattle.meaning.specs.Sums.Laws.{any_none, any-more, any_at, any-done}
use Rattle.meaning.specs.Meaning.{same}
use Rattle.meaning.specs.File.{file_at}
use Rattle.script.proofs.decomposes.Goals as goal
use Rattle.script.proofs.decomposes.Invariants.{of}

own : (n : Shape) (b : List ℕ) (c i : ℕ) (s : Slave) → s ≡ slave_at n b i → s.chart ≡ c → of n b c i ≡ true
unfolding file_at same
own n b c i s e q = eq-eqb _ _ (sym (ap (λ (s : Slave). s.chart) e) ∙ q)

other : (n : Shape) (b : List ℕ) (c i : ℕ) (s : Slave) → s ≡ slave_at n b i → (s.chart ≡ c → ⊥) → of n b c i ≡ false
unfolding file_at same
other n b c i s e q = ne_eqb _ _ (λ z. q (ap (λ (s : Slave). s.chart) e ∙ z))

pub returns-then-s-c : goal.returns-then-s-c
unfolding file_at
returns-then-s-c c =
    sym (any_at _ _ c.loop-i.i c.loop-i-test.true (own _ _ _ _ _ c.slave_at-s.ensures c.if-s-c.true))

pub loop-i-preserved : goal.loop-i-preserved
loop-i-preserved c =
    any-more _ _ c.loop-i.invariant (other _ _ _ _ _ c.slave_at-s.ensures c.if-s-c.false)

pub returns : goal.returns
unfolding file_at
returns c = any-done _ _ _ c.loop-i.auto.i-end c.loop-i-test.false c.loop-i.invariant

pub loop-i-init : goal.loop-i-init
loop-i-init c = any_none _

pub slave_at-s-requires : goal.slave_at-s-requires
slave_at-s-requires c = (c.requires.ranged.sized.holds, c.loop-i-test.true)
