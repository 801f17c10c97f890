-- `head` meets its contract: the count fits its byte.
use mathlib.Core.Path.{ap}
use Prim.Native.Nat.{ℕ}
use Rattle.signals.specs.Mask.{◌∪◌}
use Rattle.layout.specs.declared.record.Head.{Head}
use Rattle.clearing.specs.Left.{head_with}
use Rattle.clearing.proofs.head.Goals as goal

pub returns : goal.returns
unfolding head_with
returns c =
    let a = c.args in
    ap
    (λ (lost : ℕ). let h : Head = record {
      states = a.h.states;
      initial = a.h.initial;
      transitions = a.l.count;
      feedback = a.h.feedback;
      extra = a.h.extra ∪ lost;
    } in h)
    c.less.ensures
