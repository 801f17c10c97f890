use mathlib.Core.Path.{◌≡◌, sym, ap, ◌∙◌}
use mathlib.Core.Bool.{Bool, ◌&&◌, ◌||◌, cond}
use mathlib.Core.List.{List}
use Prim.Native.Nat.{ℕ}
use native.Mathlib.Omega.{arith}
use lib.Dec.{eqb}
use Rattle.signals.specs.Mask.{single}
use Rattle.layout.specs.Body.{slave_at}
use Rattle.layout.specs.declared.body.Shape.{Shape}
use Rattle.layout.specs.declared.record.Slave.{Slave}
use Rattle.layout.specs.declared.record.Transition.{Transition}
use Rattle.meaning.specs.Meaning.{Set, ∅, same}
use Rattle.meaning.specs.File.{file_at}
use Rattle.meaning.specs.Rewriting.{call, is_of, touches, calls_by}
use Rattle.meaning.proofs.Rewriting.Laws.{union_none, union_taken, union_left}
use Rattle.allocation.proofs.calls_by.Goals as goal
use Rattle.allocation.proofs.calls_by.Goals.{else-s-c, then-s-c}

-- r is slave i
test_is : (n : Shape) (b : List ℕ) (c i : ℕ) (t : Transition) (r : Slave) → r ≡ slave_at n b i
    → (eqb r.chart c && (eqb t.from r.state || eqb t.to r.state))
    ≡ (is_of (file_at n b) c i && touches (file_at n b) t i)
unfolding file_at same
test_is n b c i t r e = rw e

pub loop-i-init : goal.loop-i-init
loop-i-init c = union_none _

pub loop-i-preserved : goal.loop-i-preserved
unfolding file_at
loop-i-preserved c =
    let a = c.args in
    let e = test_is a.n a.body.now a.c c.loop-i.i a.t _
    c.slave_at-s.ensures in
    let given : (b : Bool) → Set = λ b. cond b (single (call (file_at a.n a.body.now) c.loop-i.i)) ∅ in elim c.if-s-c.branch [
      | then-s-c w ↦ w.all-is ∙ union_taken c.loop-i.i _ c.loop-i.invariant
          (c.requires.1 c.loop-i.i
          c.loop-i-test.true
          ∙ sym (ap given (sym e ∙ w.if-s-c.true)))
      | else-s-c w ↦ w.all-is ∙ union_left c.loop-i.i _ c.loop-i.invariant (ap given (sym e ∙ w.if-s-c.false))
    ]

pub returns : goal.returns
unfolding calls_by file_at
returns c =
    let e : c.loop-i.i ≡ c.args.n.slaves = omega arith in
    rw e at c.loop-i.invariant

pub slave_at-s-requires : goal.slave_at-s-requires
slave_at-s-requires c = (c.requires.0.sized.holds, c.loop-i-test.true)
