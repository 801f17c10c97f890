use mathlib.Core.Path.{◌≡◌, sym, ap, ◌∙◌}
use mathlib.Core.Bool.{Bool, cond}
use native.Mathlib.Omega.{arith}
use Rattle.signals.specs.Mask.{single}
use Rattle.meaning.specs.Meaning.{Set, ∅}
use Rattle.meaning.specs.File.{file_at}
use Rattle.meaning.specs.Rewriting.{call, calls_of}
use Rattle.meaning.proofs.Rewriting.Laws.{union_none, union_taken, union_left}
use Rattle.allocation.specs.Known.Laws.{is_of_lem, is_not}
use Rattle.allocation.proofs.calls_of.Goals as goal
use Rattle.allocation.proofs.calls_of.Goals.{else-s-c, then-s-c}

pub loop-i-init : goal.loop-i-init
loop-i-init c = union_none _

pub loop-i-preserved : goal.loop-i-preserved
unfolding file_at
loop-i-preserved c =
    let e = c.slave_at-s.ensures in
    let given : (b : Bool) → Set =
    λ b. cond b (single (call (file_at c.args.n
    c.args.body.now) c.loop-i.i)) ∅ in elim c.if-s-c.branch [
      | then-s-c w ↦ w.all-is ∙ union_taken c.loop-i.i _ c.loop-i.invariant
          (c.requires.1 c.loop-i.i
          c.loop-i-test.true
          ∙ sym (ap given (is_of_lem _ _ _ _ e w.if-s-c.true)))
      | else-s-c w ↦ w.all-is ∙ union_left c.loop-i.i _ c.loop-i.invariant (ap given (is_not _ _ _ _ e w.if-s-c.false))
    ]

pub returns : goal.returns
unfolding calls_of file_at
returns c =
    let e : c.loop-i.i ≡ c.args.n.slaves = omega arith in
    rw e at c.loop-i.invariant

pub slave_at-s-requires : goal.slave_at-s-requires
slave_at-s-requires c = (c.requires.0.sized.holds, c.loop-i-test.true)
